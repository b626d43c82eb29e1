-- Demand 3 over any machine. Read Plain, then Calls, then Demand; Laws has what a machine's crate proves for it.
pub mod Plain
pub mod Calls
pub mod Demand
pub mod Laws
