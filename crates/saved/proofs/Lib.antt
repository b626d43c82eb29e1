-- Laws of the saved record.
pub mod SoundTest
pub mod TripLaws
pub mod PartLaws
pub mod FieldLaws
pub mod AnswerLaws
