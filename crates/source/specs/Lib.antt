-- Assembly text without an instruction set: from bytes to the shape of a line.
pub mod Bytes
pub mod Tokens
pub mod Spans
pub mod Numbers
pub mod Names
pub mod Lookup
pub mod Shapes
pub mod Examples
