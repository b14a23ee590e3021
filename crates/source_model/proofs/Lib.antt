pub mod EqualRuns
pub mod SameKinds
mod EarlierOutcomes
mod LastOutcomes
mod UsedQubits
pub mod Numbers
pub mod Pulling
pub mod Keeping
pub mod Playing
pub mod Truncating
pub mod Laws
