-- The set keeps its size.
use Rattle.std.proofs.Common.{◌≡◌, length}
use Rattle.drm_attach.proofs.tests.set_of.Given as goal

abbrev pub invariant-loop-cell : goal.invariant-loop-cell
invariant-loop-cell l = length l.set ≡ 16
