-- for callers and private functions
pub mod EventsMeant
pub mod Reassembly
pub mod Sources
pub mod SourceStates
pub mod LentMessages
pub mod Turns
pub mod LeavingOut
pub mod Comparing
pub mod PayloadExcerpts
pub mod Excerpts
pub mod Normalised
