-- What reading a HEX file leaves.
pub mod LoadLaws
