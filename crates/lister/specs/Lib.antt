-- The lister: the text of words, its questions, and what it promises.
pub mod Listing
pub mod Pieces
pub mod Sign
pub mod Calls
pub mod Examples
pub mod Used
