-- The law is the lemma.
use Rattle.drm_report.proofs.PlannedLemmas.{gathered_are_planned}
use Rattle.drm_report.proofs.planned.gathered_answers_are_planned.Goals as goal

pub returns : goal.returns
returns c = gathered_are_planned
