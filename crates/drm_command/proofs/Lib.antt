pub mod EndingLemmas
pub mod NoteLemmas
