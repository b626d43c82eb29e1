-- What reading a folder's memories promises.
pub mod Memories
