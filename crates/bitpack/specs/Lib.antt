-- Values of given widths as bits of one number, and as words and bytes.
pub mod Bits
pub mod Packed
pub mod Words
pub mod Needs
pub mod Format
pub mod Examples
