-- What the parts of the commands `sim` and `resume` promise.
pub mod Logs
pub mod Start
pub mod Back
