pub mod DoneWork
pub mod Runs
pub mod SideRuns
pub mod AnswerTexts
pub mod LentRuns
pub mod ComparedRuns
