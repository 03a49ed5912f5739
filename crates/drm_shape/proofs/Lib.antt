pub mod StoreLemmas
pub mod FirstLemmas
pub mod TestLemmas
pub mod ShapeLemmas
