-- Laws of assembly text.
pub mod AllLaws
pub mod NameLaws
pub mod NumberLaws
pub mod TokenLaws
pub mod SplitLaws
pub mod ShapeLaws
