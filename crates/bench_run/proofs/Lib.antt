-- The loop of runs.
pub mod LoopLaws
