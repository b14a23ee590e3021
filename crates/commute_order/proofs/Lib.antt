pub mod BitLists
pub mod Waits
pub mod ColumnLaws
pub mod SharingLaws
pub mod WriterLists
