-- Laws of records saved and read again and again.
pub mod TurnLaws
pub mod HeldLaws
