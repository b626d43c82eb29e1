-- One line of assembly text: its form, and the questions that it answers by itself.
pub mod Line
pub mod Parts
pub mod Ranges
pub mod Asked
pub mod First
pub mod Numbered
pub mod Names
pub mod Examples
