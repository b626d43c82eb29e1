-- The texts that the programs write and print of a run.
pub mod LogFiles
pub mod Cycles
pub mod Statuses
pub mod Reasons
pub mod RecordText
pub mod Picture
pub mod Examples
