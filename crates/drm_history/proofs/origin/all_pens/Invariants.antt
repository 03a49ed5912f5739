-- The pens so far.
use Rattle.std.proofs.Common.{◌≡◌, length}
use Rattle.drm_history.specs.Rules.{AreReady}
use Rattle.drm_history.proofs.origin.all_pens.Given as goal

abbrev pub invariant-loop-i : goal.invariant-loop-i
invariant-loop-i l = (length l.pens.items ≡ l.i) × AreReady l.seen.book 0 l.pens.items
