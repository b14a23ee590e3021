pub mod Came
pub mod Feeds
pub mod Inboxes
pub mod Line
