-- The files in reading order.
pub mod LineFaults
pub mod TailCounts
pub mod RefusedLines
pub mod EndedBy
pub mod CaptureAnswers
pub mod SideTexts
-- how the state of the code is related to these
pub mod LineEntries
pub mod CloseLines
pub mod CaptureLines
pub mod Captures
pub mod LineSplitters
pub mod SideStates
