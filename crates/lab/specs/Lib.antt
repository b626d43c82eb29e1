-- The words of the program.
pub mod Words
