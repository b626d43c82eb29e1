-- This lab's runs, and this lab as one to which demand 3 applies.
pub mod Lab
pub mod Answers
pub mod RealCalls
pub mod Examples
