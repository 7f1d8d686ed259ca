pub mod OneSplit
pub mod FieldsOfLine
pub mod EncodedFields
pub mod EncodedLines
pub mod LineFaults
pub mod WrittenLines
pub mod FieldsAfterWords
pub mod DecidedLines
pub mod TextFaults
pub mod FirstPlaces
pub mod SplitLines
pub mod ReadNumbers
pub mod WrittenPlans
pub mod ReadPlans
pub mod PlanFiles
mod HeldPlans
pub mod StepLines
