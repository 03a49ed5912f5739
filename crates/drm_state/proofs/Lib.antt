pub mod KeptLemmas
pub mod SceneLemmas
