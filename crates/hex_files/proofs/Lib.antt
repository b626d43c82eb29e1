-- How the writers' answers meet their promises, and the return trips of the data memory and of the disk.
pub mod WriteLaws
pub mod ReturnTrip
