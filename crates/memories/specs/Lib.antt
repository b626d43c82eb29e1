-- What reading and writing promise.
pub mod Front
pub mod Loading
pub mod Cycles
pub mod Records
pub mod Budget
pub mod Names
pub mod NewFiles
