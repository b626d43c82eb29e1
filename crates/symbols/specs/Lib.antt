-- Names looked up by a hash table in one slice of words.
pub mod Keys
pub mod Table
pub mod Sound
