pub mod FaultText
pub mod Fields
pub mod Text
pub mod MapFile
pub mod Reading
pub mod FileReading
pub mod Elements
pub mod Verdict
