pub mod ReplayedLemmas
pub mod EndLemmas
pub mod OutcomeLemmas
pub mod RefusedLemmas
pub mod SampleLemmas
