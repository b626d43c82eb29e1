-- Laws of the labels of a text.
pub mod TextLaws
pub mod LabelPlaces
pub mod FirstPassLaws
