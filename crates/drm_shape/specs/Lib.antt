pub mod Limits
pub mod Store
pub mod Corners
pub mod Validity
pub mod Held
pub mod FaultText
