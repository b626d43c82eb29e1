-- Laws that belong to no one function.
pub mod Truth
pub mod QuestionLaws
pub mod PutLaws
pub mod PieceLaws
pub mod RangeLaws
pub mod TableLaws
pub mod CopyLaws
pub mod DigitLaws
pub mod WriteLaws
pub mod HexWordLaws
pub mod DecimalLaws
pub mod LineLaws
pub mod SameLaws
