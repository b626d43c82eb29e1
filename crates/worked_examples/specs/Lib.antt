-- Document 01's section "Proved examples": Worked has the theorem, Programs the instruction words that it runs. RunCalls computes run calls and a list of
-- them. StopAndResume has demand 3 of a list of real calls.
pub mod Cycles
pub mod Programs
pub mod RunAbove
pub mod RunCalls
pub mod StopAndResume
pub mod Worked
