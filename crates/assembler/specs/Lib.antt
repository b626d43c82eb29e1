-- The assembler: the first bad line of a text, and what a good text gives.
pub mod Questions
pub mod Memories
pub mod Answers
pub mod Promises
pub mod Passes
pub mod Examples
