-- Words of 32 bits.
pub mod Words
pub mod Examples
