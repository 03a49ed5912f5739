-- One more side each turn.
use Rattle.std.proofs.Common.{FitsSigned, w64, to_z-of_z, ◌≡◌, ℕ, ◌<◌, ◌↔◌, subst, arith}
use Rattle.std.specs.Prelude.{◌≤ℤ◌}
use Rattle.drm_shape.specs.Corners.{corner_count}
use Rattle.drm_foot.specs.Sides.{side_at, IsMet, lift, fall}
use Rattle.drm_foot.proofs.SideLemmas.{one_more_side}
use Rattle.drm_foot.proofs.ring.narrowed.Goals as goal

pub loop-i-preserved : goal.loop-i-preserved
loop-i-preserved c =
    let bottom_fits : FitsSigned w64 c.args.bottom = c.ranges.bottom in
    let top_fits : FitsSigned w64 c.args.top = c.ranges.top in
    let narrowed = rw c.of.ensures.value at (simp to_z-of_z at c.narrow-span.ensures) in
    rw (to_z-of_z bottom_fits, to_z-of_z top_fits)
    (λ left right line order. one_more_side c.loop-i.i (λ k. fall (side_at c.args.ring.now k) left right ≤ℤ lift (side_at c.args.ring.now k) c.args.bottom c.args.top)
    (simp to_z-of_z at (c.loop-i.invariant left right line order)) (narrowed left right line order))

pub returns : goal.returns
returns c =
    let bottom_fits : FitsSigned w64 c.args.bottom = c.ranges.bottom in
    let top_fits : FitsSigned w64 c.args.top = c.ranges.top in
    let test = c.loop-i-test.false in
    let end = c.loop-i.auto.i-end in
    let count = c.corners-i-end.ensures.count in
    let done : c.loop-i.i ≡ corner_count c.args.ring.now = omega arith in
    λ left right line order. subst (λ (n : ℕ). IsMet c.loop-i.span left right ↔ (IsMet c.args.whole left right × ((k : ℕ) → k < n → fall (side_at c.args.ring.now k) left right ≤ℤ lift (side_at c.args.ring.now k) c.args.bottom c.args.top))) done (simp to_z-of_z at (c.loop-i.invariant left right line order))
