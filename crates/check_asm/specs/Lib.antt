-- Words of a memory, and what is asked of memories.
pub mod Rows
pub mod Trials
