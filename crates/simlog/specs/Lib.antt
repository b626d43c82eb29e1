-- What simlog reads and runs.
pub mod Simlog
