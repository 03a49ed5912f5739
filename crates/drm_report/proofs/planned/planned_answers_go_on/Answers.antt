-- The law is the lemma.
use Rattle.drm_report.proofs.PlannedLemmas.{goes_on}
use Rattle.drm_report.proofs.planned.planned_answers_go_on.Goals as goal

pub returns : goal.returns
returns c = goes_on
