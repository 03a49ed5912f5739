-- The slots so far are empty.
use Rattle.drm_build.specs.Found.{AreEmpty}
use Rattle.drm_build.proofs.order.empty.Given as goal

abbrev pub invariant-loop : goal.invariant-loop
invariant-loop l = AreEmpty l.counter l.slots.items
