pub mod Built
pub mod Sets
pub mod Found
pub mod Laws
pub mod FaultText
