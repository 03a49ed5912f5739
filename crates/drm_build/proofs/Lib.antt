pub mod ListLemmas
pub mod BuiltLemmas
pub mod SoundLemmas
pub mod ZipLemmas
pub mod OrderLemmas
pub mod MadeLemmas
pub mod FewLemmas
