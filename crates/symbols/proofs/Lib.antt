-- Laws of names and of the table.
pub mod LookupLaws
pub mod NameLaws
pub mod DistinctLaws
pub mod KeyLaws
pub mod FindLaws
pub mod AddLaws
pub mod EmptyLaws
pub mod TokenLaws
