-- Laws that belong to no one function.
pub mod IoLaws
pub mod OperationLaws
pub mod WordLaws
pub mod NameLaws
