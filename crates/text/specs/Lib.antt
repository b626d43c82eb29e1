-- What text is made of: numerals, lines, bytes laid at a place; and questions whose first no refuses.
pub mod Bytes
pub mod Questions
pub mod Numerals
pub mod Lines
pub mod Place
pub mod Same
pub mod Ranges
pub mod Examples
