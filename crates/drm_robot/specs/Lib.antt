pub mod FaultText
pub mod Fields
pub mod Reading
