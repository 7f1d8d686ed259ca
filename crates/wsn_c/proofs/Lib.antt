pub mod MemoryRuns
