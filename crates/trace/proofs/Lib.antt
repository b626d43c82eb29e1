-- Laws that belong to no one function.
pub mod RegisterTextLaws
pub mod LengthLaws
pub mod LineLaws
pub mod PrefixLaws
