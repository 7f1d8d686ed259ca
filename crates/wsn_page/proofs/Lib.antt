pub mod MemoryRuns
pub mod Rooms
