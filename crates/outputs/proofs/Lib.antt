-- Laws that belong to no one function.
pub mod PieceLaws
pub mod LogLaws
pub mod StopLaws
pub mod RegisterLaws
pub mod RecordLaws
