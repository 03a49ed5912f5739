-- The floor is the quotient of the raised number, lowered again.
use Rattle.std.proofs.Common.{ℕ, ◌≡◌, ◌^◌, ◌*◌, ◌<◌, ℤ, pos, ◌+ℤ◌, ap, arith, ◌∙◌, to_z-of_z}
use Rattle.std.proofs.lemmas.Int.{ints}
use Rattle.drm_num.specs.Small.{IsSmall}
use Rattle.drm_num.specs.Quotient.{floor}
use Rattle.drm_num.proofs.SmallLemmas.{IsSmall-floor}
use Rattle.drm_num.proofs.Reciprocals.{floor_from_raised}
use Rattle.drm_grid.specs.Layout.{IsSide}
use Rattle.drm_grid.proofs.quotients.floor_by_side.Goals as goal

small_floor : (side : ℕ) (coordinate : ℤ) → IsSide side → IsSmall (pos 16777217) coordinate → IsSmall (pos (2 ^ 18)) (floor coordinate (pos side))
small_floor side coordinate is small =
    let wide : IsSmall (pos (2 ^ 18 * side)) coordinate = record {
      low = omega (arith, ints, small.low, is.least);
      high = omega (arith, ints, small.high, is.least);
    } in
    IsSmall-floor (pos (2 ^ 18)) coordinate (pos side) (omega (arith, ints, is.least)) wide

pub returns-clause-value : goal.returns-clause-value
returns-clause-value c =
    let side = c.args.grid.now.side in
    let is = c.side.ensures.limits.side in
    let some : 0 < side = omega (arith, is.least) in
    let small = small_floor side c.args.coordinate is c.requires in
    let fits = c.ranges.coordinate in
    let raised : pos c.raised.result ≡ c.args.coordinate +ℤ pos (2 ^ 18 * side) = simp (to_z-of_z, c.side.ensures.exact) at c.raised.ensures.value in
    let quotient : pos c.quotient-raised.result ≡ floor c.args.coordinate (pos side) +ℤ pos (2 ^ 18) =
    ap pos (c.quotient-raised.ensures side is.most c.reciprocal.ensures.exact) ∙ floor_from_raised (2 ^ 18) c.args.coordinate side c.raised.result some raised in
    omega (arith, ints, quotient, small.low, small.high)

pub returns-clause-small : goal.returns-clause-small
returns-clause-small c = rw (returns-clause-value c) (small_floor c.args.grid.now.side c.args.coordinate c.side.ensures.limits.side c.requires)
