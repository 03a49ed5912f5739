pub mod TouchLemmas
pub mod AnswerLemmas
pub mod LegLemmas
pub mod PlanLemmas
pub mod OnePlanLemmas
