-- Laws that belong to no one function.
pub mod BitLaws
pub mod PackLaws
pub mod ByteLaws
pub mod WordLaws
pub mod LastBytes
pub mod StreamLaws
pub mod PackingLaws
pub mod FitLaws
pub mod FormatLaws
