pub mod Status
pub mod Limits
pub mod Command
pub mod Texts
pub mod Refusal
pub mod Ending
pub mod Note
