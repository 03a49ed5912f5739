pub mod TallyLemmas
pub mod SweepLemmas
pub mod BarredLemmas
pub mod FlagLemmas
pub mod OpenLemmas
pub mod MapLemmas
pub mod RuleLoops
