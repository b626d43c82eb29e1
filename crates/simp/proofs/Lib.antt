-- Laws of the C face.
pub mod FileLaws
pub mod AssemblyLaws
pub mod NumberLaws
pub mod RecordLaws
pub mod RunLaws
