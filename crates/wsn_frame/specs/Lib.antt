-- Definitions of a frame that is being read: its head, its payload, the open message, the counts.
pub mod PartialHeads
pub mod Payloads
pub mod PayloadChecks
pub mod KeptMessages
pub mod Counts
