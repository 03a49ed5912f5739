-- A plan is right, and a right answer is truthful.
use Rattle.drm_report.proofs.PlannedLemmas.{planned_are_truthful}
use Rattle.drm_report.proofs.planned.planned_answers_are_truthful.Goals as goal

pub returns : goal.returns
returns c = planned_are_truthful c.plans_are_right.ensures c.right_answers_are_truthful.ensures
