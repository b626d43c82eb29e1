-- What demand 2 says of listing and assembling.
pub mod Demand2
