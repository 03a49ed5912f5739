pub mod TakenLemmas
pub mod RunLemmas
pub mod PoseLemmas
pub mod FarLemmas
pub mod LawLemmas
pub mod LiveLemmas
pub mod AheadLemmas
