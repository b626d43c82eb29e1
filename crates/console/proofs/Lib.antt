pub mod AppendLaws
pub mod LineLaws
pub mod ReadLaws
pub mod WritingLaws
