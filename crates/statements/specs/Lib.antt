-- One line of a text: what it says, and its questions.
pub mod Questions
pub mod Encoding
pub mod Reading
pub mod Errors
