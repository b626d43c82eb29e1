-- Laws of that place.
pub mod PlaceLaws
