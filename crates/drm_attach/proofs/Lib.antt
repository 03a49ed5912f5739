pub mod CandidateLemmas
pub mod AttachedLemmas
pub mod OrderLemmas
pub mod OneLemmas
