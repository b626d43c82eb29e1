-- Laws that belong to no one function.
pub mod AssembleLaws
pub mod CountLaws
pub mod ListLaws
