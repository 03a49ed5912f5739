mod RuleLemmas
mod DeskLemmas
mod OwnLemmas
mod EditLemmas
mod ClosingLemmas
