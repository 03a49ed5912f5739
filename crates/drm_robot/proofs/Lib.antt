pub mod ReadingLemmas
