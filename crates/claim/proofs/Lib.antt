-- The proof of demand 3 over any machine. Lists has demand 3 itself; Loop has what a real run's loop needs.
pub mod Runs
pub mod Lists
pub mod Loop
pub mod Traces
