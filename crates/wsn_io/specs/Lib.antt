-- Definitions of what is received and written, of stops, of block writers, and of the first bytes that are read.
pub mod Transfer
pub mod Stops
pub mod Blocks
pub mod FirstReads
pub mod ByteSources
