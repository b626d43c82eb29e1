-- Laws of a run that is stopped and resumed.
pub mod ReturnLaws
pub mod ResumeLaws
