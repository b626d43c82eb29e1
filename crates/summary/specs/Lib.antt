-- The lines that follow a log, or stand for one.
pub mod Milliseconds
pub mod ClosingLines
pub mod Examples
