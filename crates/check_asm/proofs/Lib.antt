-- Laws that belong to no one function.
pub mod AllLaws
pub mod BuiltLaws
pub mod RowLaws
pub mod TrialLaws
