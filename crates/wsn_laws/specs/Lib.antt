-- Definitions that only the laws and the examples need, in reading order.

-- JSON by the grammar of RFC 8259, and what is required of an answer that is printed
pub mod JsonText
pub mod Answers
pub mod ShownItems
pub mod ShownDifferences
-- streams that differ only in what was said; what is shown of them; captures of them
pub mod AlikeStreams
pub mod AlikeItems
pub mod AlikeCaptures
-- for the examples
pub mod PlanExamples
pub mod HeadExamples
