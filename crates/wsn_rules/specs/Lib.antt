-- The definitions in reading order. A frame's bytes are defined in wsn_wire, UTF-8 and the body of a Close in wsn_text.

-- a stream that may be sent
pub mod Limits
pub mod Group
pub mod MessageLaw
pub mod Lawful
-- the meaning of a stream
pub mod Meaning
pub mod LawfulEvents
pub mod NormalForm
pub mod LeftOut
-- the verdict on a stream
pub mod AfterClose
pub mod Accepted
pub mod Evidence
pub mod Summary
pub mod Verdict
-- two streams
pub mod SameMeaning
-- the heads that are reported
pub mod Heads
-- recuts
pub mod Plan
pub mod Fitting
pub mod Fault
pub mod WalkedPlan
pub mod Recut
pub mod Encodings
pub mod UniformPlan
pub mod InterleavedPlan
pub mod UniformFrames
-- both sides of a connection: the lines and entries of a capture, what became of each stream, the report
pub mod TextLines
pub mod Entries
pub mod Sides
pub mod ClosingHandshake
-- what is shown of a stream, and of a capture
pub mod BadCharacter
pub mod ShownStream
pub mod ShownEvents
pub mod ShownOffsets
pub mod ShownCapture
-- for the examples
pub mod Examples
