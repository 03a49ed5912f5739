pub mod BestLemmas
pub mod RoundLemmas
pub mod WeightLemmas
pub mod TraceLemmas
pub mod FoundLemmas
pub mod LawLemmas
pub mod OneLemmas
