-- The steps in the arguments.
pub mod Keys
