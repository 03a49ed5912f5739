-- The floor is the quotient of the raised number, lowered again.
use Rattle.std.proofs.Common.{◌≡◌, ◌^◌, pos, ◌+ℤ◌, ◌<ℤ◌, ap, arith, ◌∙◌, ◌*◌, to_z-of_z}
use Rattle.std.proofs.lemmas.Int.{ints}
use Rattle.drm_num.specs.Quotient.{floor}
use Rattle.drm_num.proofs.SmallLemmas.{IsSmall-floor}
use Rattle.drm_num.proofs.Reciprocals.{divisor_above_zero, floor_from_raised}
use Rattle.drm_pose.proofs.quotients.floor_of.Goals as goal

pub returns-clause-some : goal.returns-clause-some
returns-clause-some c = divisor_above_zero (2 ^ 62) c.args.cut.now c.reciprocal.result c.reciprocal.ensures

pub returns-clause-value : goal.returns-clause-value
returns-clause-value c =
    let n = c.args.cut.now in
    let some = returns-clause-some c in
    let above : pos 0 <ℤ pos n = omega (arith, ints) in
    let small = IsSmall-floor (pos (2 ^ 42)) c.args.z (pos n) above c.requires.small in
    let z_fits = c.ranges.z in
    let raised : pos c.raised.result ≡ c.args.z +ℤ pos (2 ^ 42 * n) = simp (to_z-of_z, c.count.ensures) at c.raised.ensures.value in
    let quotient : pos c.quotient.result ≡ floor c.args.z (pos n) +ℤ pos (2 ^ 42) =
    ap pos (c.quotient.ensures n c.requires.few c.reciprocal.ensures) ∙ floor_from_raised (2 ^ 42) c.args.z n c.raised.result some raised in
    omega (arith, ints, quotient, small.low, small.high)

pub returns-clause-small : goal.returns-clause-small
returns-clause-small c =
    let some = returns-clause-some c in
    rw (returns-clause-value c) (IsSmall-floor (pos (2 ^ 42)) c.args.z (pos c.args.cut.now) (omega (arith, ints)) c.requires.small)
