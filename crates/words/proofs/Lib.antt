-- Laws that belong to no one function.
pub mod WordLaws
pub mod FitLaws
