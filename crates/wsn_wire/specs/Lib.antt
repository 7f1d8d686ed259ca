-- Definitions of frames, their layout, the rules for their heads, and the table of refusals.
pub mod Frame
pub mod ReceivedHead
pub mod Refusal
pub mod EvidenceInHeads
pub mod HeadLaw
