-- Laws that belong to no one function.
pub mod RunLaws
pub mod PieceLaws
pub mod SplitLaws
