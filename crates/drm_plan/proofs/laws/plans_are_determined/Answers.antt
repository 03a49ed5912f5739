-- By the laws that attachments are determined, what a search finds, and the snapshot after a history.
use Rattle.drm_plan.proofs.OnePlanLemmas.{plan_is_one, planned_is_one}
use Rattle.drm_plan.proofs.laws.plans_are_determined.Goals as goal

pub returns : goal.returns
returns c =
    let one = plan_is_one c.attachments_are_determined.ensures c.found_is_determined.ensures in
    record { over = one; after = planned_is_one c.snaps_are_determined.ensures one }
