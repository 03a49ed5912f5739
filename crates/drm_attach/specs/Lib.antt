pub mod Limits
pub mod Candidates
pub mod Attached
pub mod Laws
