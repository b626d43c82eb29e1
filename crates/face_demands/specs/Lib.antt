-- Calls of the C face, and what demand 2 says of them.
pub mod FaceCalls
pub mod FaceDemand2
pub mod FaceHex
