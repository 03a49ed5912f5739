pub mod KnownLemmas
mod ShelfLemmas
