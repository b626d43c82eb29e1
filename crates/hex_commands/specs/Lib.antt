-- The words of the command, and what reading a HEX file promises.
pub mod Words
pub mod Loading
