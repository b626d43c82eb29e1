-- Laws of lines.
pub mod FormLaws
pub mod FirstLaws
pub mod NameLaws
pub mod RangeLaws
