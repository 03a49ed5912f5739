-- Each event so far may come.
use Rattle.std.proofs.Common.{ℕ, ◌<◌, get_or}
use Rattle.drm_core.specs.Machine.{MayCome}
use Rattle.drm_core.specs.declared.event.Event.{Event}
use Rattle.drm_core.proofs.tests.all_may_come.Given as goal

abbrev pub invariant-loop-event : goal.invariant-loop-event
invariant-loop-event l = (k : ℕ) (zero : Event) → k < l.event-index → MayCome l.callers (get_or l.events k zero)
