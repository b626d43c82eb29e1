-- The lines of the log, and the text of registers and the prefix that the code holds.
pub mod LogLines
pub mod Prefixes
pub mod ValidPrefixes
