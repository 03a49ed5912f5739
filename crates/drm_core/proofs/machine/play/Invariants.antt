-- The answers so far, and then those of the core as it is to the events that are left.
use Rattle.std.proofs.Common.{◌≡◌, ◌++◌, drop, length}
use Rattle.std.specs.Arc.{arc_value}
use Rattle.drm_core.specs.Machine.{answers, beginning}
use Rattle.drm_core.proofs.machine.play.Given as goal

abbrev pub invariant-loop-event : goal.invariant-loop-event
invariant-loop-event l =
    (answers (beginning (arc_value l.fn.map) l.callers) l.events ≡ l.told.items ++ answers l.core (drop l.event-index l.events))
    × (length l.core.seen ≡ l.callers)
