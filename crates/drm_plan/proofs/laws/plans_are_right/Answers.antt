-- By the law that what the search finds is certified.
use Rattle.drm_plan.proofs.PlanLemmas.{plan_is_right}
use Rattle.drm_plan.proofs.laws.plans_are_right.Goals as goal

pub returns : goal.returns
returns c = plan_is_right c.found_is_certified.ensures
