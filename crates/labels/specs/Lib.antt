-- The lines of a text, and the labels that they define.
pub mod Text
pub mod Limits
pub mod Tables
pub mod Found
