-- The joints so far stand within their limits.
use Rattle.std.proofs.Common.{◌≡◌, true, take}
use Rattle.std.specs.List.{list_all, zip}
use Rattle.drm_arm.specs.Config.{allows}
use Rattle.drm_cellmap.proofs.rules.is_within.Given as goal

abbrev pub invariant-loop-j : goal.invariant-loop-j
invariant-loop-j l = list_all (λ pair. allows pair.0 pair.1) (take l.j (zip l.arm l.node)) ≡ true
