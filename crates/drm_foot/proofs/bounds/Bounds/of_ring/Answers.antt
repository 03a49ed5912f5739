-- One more corner each turn.
use Rattle.std.proofs.Common.{◌≡◌, ℕ, ◌≤◌, FitsSigned, w32, subst, to_z-of_z, arith}
use Rattle.drm_shape.specs.Corners.{corner_count, corner_at}
use Rattle.drm_foot.specs.Bounds.{IsSpan}
use Rattle.drm_foot.proofs.SpanLemmas.{span_more}
use Rattle.drm_foot.proofs.bounds.Bounds.of_ring.Goals as goal

pub loop-i-preserved : goal.loop-i-preserved
loop-i-preserved c =
    let ring = c.args.ring.now in
    let x : FitsSigned w32 c.x.result = record { sfits = c.x.type_inv } in
    let y : FitsSigned w32 c.y.result = record { sfits = c.y.type_inv } in
    let x0 = simp to_z-of_z at c.with-bounds.ensures.x0 in
    let x1 = simp to_z-of_z at c.with-bounds.ensures.x1 in
    let y0 = simp to_z-of_z at c.with-bounds.ensures.y0 in
    let y1 = simp to_z-of_z at c.with-bounds.ensures.y1 in (
      span_more c.loop-i.i (λ k. (corner_at ring k).x) c.loop-i.bounds.x0 c.loop-i.bounds.x1 c.x.result c.with-bounds.result.x0 c.with-bounds.result.x1 c.x.ensures x0 x1 c.loop-i.invariant.0,
      span_more c.loop-i.i (λ k. (corner_at ring k).y) c.loop-i.bounds.y0 c.loop-i.bounds.y1 c.y.result c.with-bounds.result.y0 c.with-bounds.result.y1 c.y.ensures y0 y1 c.loop-i.invariant.1,
    )

pub returns-clause-across : goal.returns-clause-across
returns-clause-across c =
    let ring = c.args.ring.now in
    let least = c.corners-corners.ensures.form.least in
    let count = c.corners-corners.ensures.count in
    let test = c.loop-i-test.false in
    let end = c.loop-i.auto.i-end in
    let done : c.loop-i.i ≡ corner_count ring = let low : 1 ≤ c.corners-corners.result = omega arith in let high = end low in omega arith in
    subst (λ (n : ℕ). IsSpan n (λ k. (corner_at ring k).x) c.loop-i.bounds.x0 c.loop-i.bounds.x1) done c.loop-i.invariant.0

pub returns-clause-up : goal.returns-clause-up
returns-clause-up c =
    let ring = c.args.ring.now in
    let least = c.corners-corners.ensures.form.least in
    let count = c.corners-corners.ensures.count in
    let test = c.loop-i-test.false in
    let end = c.loop-i.auto.i-end in
    let done : c.loop-i.i ≡ corner_count ring = let low : 1 ≤ c.corners-corners.result = omega arith in let high = end low in omega arith in
    subst (λ (n : ℕ). IsSpan n (λ k. (corner_at ring k).y) c.loop-i.bounds.y0 c.loop-i.bounds.y1) done c.loop-i.invariant.1
