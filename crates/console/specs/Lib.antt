pub mod Counts
pub mod Line
pub mod Paths
pub mod Reading
pub mod Refusals
pub mod Writings
