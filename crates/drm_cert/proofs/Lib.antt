pub mod RouteLemmas
pub mod EdgeLemmas
pub mod LabelLemmas
pub mod CutLemmas
pub mod WayLemmas
