-- Each label keeps its grounds, and the labels are small.
use Rattle.std.proofs.Common.{◌≡◌, ℕ, length}
use Rattle.drm_route.specs.Labels.{HasGrounds}
use Rattle.drm_route.specs.Rounds.{AreSmall, total}
use Rattle.drm_route.proofs.labels.settle.Given as goal

abbrev pub invariant-loop : goal.invariant-loop
invariant-loop l =
    ((from : ℕ) → HasGrounds l.road l.snap from l.fn.labels → HasGrounds l.road l.snap from l.labels)
    × AreSmall l.labels
    × (length l.labels ≡ length l.fn.labels)

abbrev pub decreases-loop : goal.decreases-loop
decreases-loop l = total l.labels
