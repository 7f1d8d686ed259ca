-- Definitions of what `show` does: first of one stream, then of a capture.
pub mod Styles
pub mod PayloadsSoFar
pub mod HeldParts
pub mod LastPayloads
pub mod StreamParts
pub mod ShownItems
pub mod ShownSoFar
pub mod TakenParts
pub mod EndedByTexts
pub mod EndNotes
pub mod CaptureViews
pub mod Showing
pub mod PassedLines
pub mod StreamShows
