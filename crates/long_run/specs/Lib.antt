-- What a run whose log is printed in pieces makes of an image.
pub mod Pieces
