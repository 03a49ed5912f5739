-- The edge is from `low` on and below `high`.
use Rattle.std.proofs.Common.{◌-◌}
use Rattle.drm_plan.proofs.LegLemmas.{IsBetween}
use Rattle.drm_plan.proofs.legs.edge_between.Given as goal

abbrev pub invariant-loop-high : goal.invariant-loop-high
invariant-loop-high l = IsBetween l.road l.a l.b l.low l.high

abbrev pub decreases-loop-high : goal.decreases-loop-high
decreases-loop-high l = l.high - l.low
