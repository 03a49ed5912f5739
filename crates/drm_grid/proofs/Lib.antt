pub mod SetLemmas
pub mod StripLemmas
pub mod NearLemmas
pub mod ListLemmas
pub mod WordLemmas
pub mod LeastLemmas
pub mod PlaceLemmas
