-- A stored sweep that passes has each swept cell, and that of an edge that is not barred has no occupied one.
use Rattle.drm_plan.proofs.AnswerLemmas.{passed_is_never_unsound}
use Rattle.drm_plan.proofs.laws.passed_maps_are_never_unsound.Goals as goal

pub returns : goal.returns
returns c = passed_is_never_unsound c.open_elements_are_clear.ensures.edges
