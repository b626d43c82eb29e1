-- The C face of the lab.
pub mod Files
pub mod Assembly
pub mod Numbers
pub mod Records
pub mod Runs
