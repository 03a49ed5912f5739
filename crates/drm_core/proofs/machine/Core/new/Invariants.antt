-- The callers so far have seen nothing.
use Rattle.std.proofs.Common.{◌≡◌}
use Rattle.std.specs.Prelude.{replicate}
use Rattle.drm_core.proofs.machine.Core.new.Given as goal

abbrev pub invariant-loop-i : goal.invariant-loop-i
invariant-loop-i l = l.seen.items ≡ replicate l._i 0
