-- Laws of runs, and demand 3 of this lab.
pub mod TurnLaws
pub mod GoLaws
pub mod RunLaws
pub mod LabLaws
pub mod Trips
pub mod Demand3
