-- The redaction of a stream, in reading order: the stand-ins of characters; the redaction; what a call writes and answers.
pub mod StandIns
pub mod Redaction
pub mod Redacting
-- the redaction of a capture
pub mod ExtensionNames
pub mod RedactedCaptures
pub mod RedactingCaptures
pub mod PassedRedactions
-- what is kept between the parts of frames
pub mod Dues
pub mod RedactedParts
