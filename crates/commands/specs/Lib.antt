-- What the command `asm` promises, and what it says.
pub mod Program
pub mod Said
