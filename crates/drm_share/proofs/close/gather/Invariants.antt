-- The passes that are not left were taken in.
use Rattle.std.proofs.Common.{◌≡◌, ◌++◌, length, List}
use Rattle.std.specs.Prelude.{All}
use Rattle.std.specs.List.{sum_by}
use Rattle.drm_share.specs.Closing.{IsPartOf}
use Rattle.drm_share.specs.Seen.{Seen}
use Rattle.drm_share.proofs.close.gather.Given as goal

abbrev pub invariant-loop-pass : goal.invariant-loop-pass
invariant-loop-pass g l =
    (taken : List Seen)
    × (l.initial.left.items ≡ l.left.items ++ taken)
    × (l.tail ≡ l.initial.tail)
    × All (λ (seen : Seen). IsPartOf l.initial.tail seen) taken
    × (l.rest.parts ≡ length taken)
    × (l.rest.amount ≡ sum_by (λ (seen : Seen). length seen.own) taken)

abbrev pub decreases-loop-pass : goal.decreases-loop-pass
decreases-loop-pass g l = goal.left-loop-pass g l
