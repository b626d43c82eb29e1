-- Laws that belong to no one function.
pub mod PieceLaws
pub mod ImmediateLaws
pub mod LineLaws
pub mod ListingLaws
pub mod AnswerLaws
pub mod CallLaws
pub mod UsedLaws
