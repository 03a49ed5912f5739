pub mod ArmLemmas
pub mod ConfigLemmas
pub mod StoreLemmas
