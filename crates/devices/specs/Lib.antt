-- The timer, the disk and the clock, of any computer that has them: no instruction set, no PC and no status.
pub mod Numbers
pub mod Bus
pub mod Timer
pub mod Command
pub mod Disk
pub mod Soundness
pub mod Devices
pub mod Transfer
pub mod Examples
