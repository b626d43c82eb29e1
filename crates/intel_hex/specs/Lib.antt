-- Intel HEX: what a record is, what is read and refused, what is written.
pub mod Words
pub mod Record
pub mod Reading
pub mod Writing
pub mod Answers
pub mod Promises
pub mod Steps
pub mod Examples
