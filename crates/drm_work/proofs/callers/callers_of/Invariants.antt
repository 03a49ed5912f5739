-- There is a number above all callers so far.
use Rattle.std.proofs.Common.{◌<◌, ◌≤◌, take}
use Rattle.std.specs.Prelude.{All}
use Rattle.drm_share.specs.Limits.{most_callers}
use Rattle.drm_work.proofs.callers.callers_of.Given as goal

abbrev pub invariant-loop-line : goal.invariant-loop-line
invariant-loop-line l = (0 < l.callers) × (l.callers ≤ most_callers) × All (λ line. line.caller < l.callers) (take l.line-index l.lines)
