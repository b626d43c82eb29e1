-- Laws that belong to no one function, and the theorem of the return trip.
pub mod CellLaws
pub mod CheckLaws
pub mod ChunkLaws
pub mod FillLaws
pub mod PutLaws
pub mod SizeLaws
pub mod AnswerLaws
pub mod Irq2Laws
pub mod ReturnTrip
pub mod CutLaws
pub mod FrontLaws
pub mod Irq2CutLaws
pub mod LoadedLaws
pub mod CycleLaws
