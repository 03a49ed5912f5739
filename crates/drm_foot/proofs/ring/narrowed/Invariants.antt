-- The span is what the sides so far leave of the whole.
use Rattle.std.proofs.Common.{ℕ, ◌<◌, ◌↔◌}
use Rattle.std.specs.Prelude.{ℤ, pos, neg_ℤ, ◌≤ℤ◌}
use Rattle.drm_foot.specs.Sides.{side_at, IsMet, lift, fall}
use Rattle.drm_foot.proofs.ring.narrowed.Given as goal

abbrev pub invariant-loop-i : goal.invariant-loop-i
invariant-loop-i l =
    (left right : ℤ) → neg_ℤ (pos 65536) ≤ℤ left → left ≤ℤ right
    → IsMet l.span left right ↔ (IsMet l.fn.whole left right × ((k : ℕ) → k < l.i → fall (side_at l.ring k) left right ≤ℤ lift (side_at l.ring k) l.bottom l.top))
