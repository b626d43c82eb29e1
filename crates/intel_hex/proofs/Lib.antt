-- Laws of Intel HEX, the theorem of the return trip, and those of texts that read the same.
pub mod ChunkLaws
pub mod PairLaws
pub mod RecordLaws
pub mod FoundLaws
pub mod OutcomeLaws
pub mod TurnLaws
pub mod FillLaws
pub mod WordLaws
pub mod AnswerLaws
pub mod WrittenLaws
pub mod PutLaws
pub mod ReturnTrip
pub mod SameReadLaws
