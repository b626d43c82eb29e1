-- Laws of what a line says and of its questions.
pub mod QuestionLaws
pub mod AskLaws
pub mod ReadLaws
