-- What is held so far becomes, by the rest, what the slot holds.
use Rattle.std.proofs.Common.{◌≡◌, drop}
use Rattle.drm_talk.specs.History.{shape_after, shape_in}
use Rattle.drm_core.proofs.machine.held.Given as goal

abbrev pub invariant-loop-entry : goal.invariant-loop-entry
invariant-loop-entry l = shape_after l.shape l.slot (drop l.entry-index l.history) ≡ shape_in l.history l.slot
