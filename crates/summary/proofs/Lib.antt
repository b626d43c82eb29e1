-- Laws that belong to no one function.
pub mod TimeLaws
pub mod LineLaws
