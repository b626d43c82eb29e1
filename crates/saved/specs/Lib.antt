-- The saved record: its layout in two editions, which records are sound, saving and reading.
pub mod Layout
pub mod Parts
pub mod Sound
pub mod Calls
pub mod Promises
pub mod OldRecords
pub mod Answers
pub mod Examples
