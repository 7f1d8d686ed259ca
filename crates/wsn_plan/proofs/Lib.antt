pub mod GatheredEvents
pub mod EventsAhead
pub mod Reasons
pub mod WalkedSteps
pub mod UniformSteps
pub mod MaskedPayloads
pub mod NextEvents
pub mod RecutSoFar
pub mod Recuts
pub mod PlannedChunks
pub mod PlannedFrames
pub mod OneRecut
pub mod Restored
mod SameMeaning
