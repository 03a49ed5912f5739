pub mod Limits
pub mod History
pub mod Front
pub mod Exchange
