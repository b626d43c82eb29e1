-- The memory files and the irq2 file: what is read, what is written, what is refused.
pub mod Sizes
pub mod MemoryFile
pub mod Irq2File
pub mod Answers
pub mod Promises
pub mod Front
pub mod Loaded
pub mod Examples
