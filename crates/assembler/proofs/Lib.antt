-- Laws of the assembler.
pub mod MemoryLaws
pub mod TranslateLaws
pub mod CallLaws
