-- The 2023 instruction set: the instruction word, operations, register names and I/O registers.
pub mod Word
pub mod Operations
pub mod Accesses
pub mod Registers
pub mod Examples
