mod SnapLemmas
