-- frames
pub mod ListedParts
pub mod Printing
pub mod ListedInputs
pub mod OneListing
-- a payload
pub mod OpenMessages
pub mod KeptEvents
pub mod TakenParts
pub mod EndedAnswers
pub mod SoughtSteps
pub mod SoughtChunks
pub mod SoughtInputs
pub mod OneEvent
pub mod ElsewhereBegun
pub mod OnePayload
