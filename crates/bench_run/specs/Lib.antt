-- What real calls leave.
pub mod ByCalls
