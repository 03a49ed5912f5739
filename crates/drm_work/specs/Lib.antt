pub mod Lines
pub mod Work
pub mod Told
pub mod Whole
