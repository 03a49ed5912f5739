pub mod Arm
pub mod Config
pub mod Distance
pub mod Limits
pub mod Motion
pub mod Store
pub mod FaultTexts
