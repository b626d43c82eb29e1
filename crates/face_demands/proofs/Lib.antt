-- Demands 2 and 3 of the C face.
pub mod FaceDemand2
pub mod FaceDemand3
pub mod FaceHex
