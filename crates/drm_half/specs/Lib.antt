pub mod HalfAngle
pub mod Turned
pub mod Ends
pub mod Laws
