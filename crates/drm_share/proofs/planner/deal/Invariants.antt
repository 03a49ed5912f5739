-- The passes so far are new, and the rest of the parts is there.
use Rattle.std.proofs.Common.{◌≡◌, ◌+◌, ◌≤◌, map, drop, vec_capacity}
use Rattle.std.specs.List.{range_with_len}
use Rattle.left_right.specs.Sides.{view}
use Rattle.drm_share.specs.Seen.{fresh}
use Rattle.drm_share.proofs.planner.deal.Given as goal

abbrev pub invariant-loop-caller : goal.invariant-loop-caller
invariant-loop-caller g l =
    (l.passes.items ≡ map fresh (range_with_len 0 l.caller))
    × (l.callers ≤ vec_capacity l.passes)
    × (l.rest.parts + l.caller ≡ l.callers)
    × (l.rest.amount ≡ 0)
    × (view l.writer.desk.place ≡ view l.initial.writer.desk.place)
    × (l.writer.desk.shown.value ≡ l.initial.writer.desk.shown.value)
    × (drop l.writer.behind l.writer.log.items ≡ drop l.initial.writer.behind l.initial.writer.log.items)
