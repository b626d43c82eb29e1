-- A record saved and read again and again.
pub mod Turns
pub mod Examples
