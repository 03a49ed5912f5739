mod TableLemmas
mod SnapLemmas
