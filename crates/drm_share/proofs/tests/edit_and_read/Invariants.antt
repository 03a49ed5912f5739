-- The pass stays its caller's.
use Rattle.std.proofs.Common.{◌≡◌}
use Rattle.drm_share.proofs.tests.edit_and_read.Given as goal

abbrev pub invariant-loop-turn : goal.invariant-loop-turn
invariant-loop-turn g l = l.pass.caller ≡ l.initial.pass.caller
