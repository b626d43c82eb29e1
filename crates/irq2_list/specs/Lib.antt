-- The place of an age in the irq2 list.
pub mod Places
