pub mod HalfAngleLemmas
pub mod TurnLemmas
pub mod WidthLemmas
pub mod RoundLemmas
pub mod InclusionLemmas
