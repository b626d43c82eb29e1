-- Laws that belong to no one function.
pub mod RecordLaws
pub mod LoadLaws
pub mod NameLaws
pub mod NewFileLaws
pub mod BudgetLaws
