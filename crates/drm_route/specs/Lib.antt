pub mod Limits
pub mod Labels
pub mod Rounds
pub mod Trace
pub mod Search
pub mod Laws
