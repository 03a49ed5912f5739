-- The product of a small number and a number of pieces fits.
use Rattle.std.proofs.Common.{pos, ◌*ℤ◌, arith, FitsSigned, w64, to_z-of_z}
use Rattle.std.proofs.lemmas.Int.{ints}
use Rattle.std.proofs.Math.Nat.{le_refl}
use Rattle.drm_pose.proofs.PieceLemmas.{share_small}
use Rattle.drm_pose.proofs.parts.product.Goals as goal

pub returns-clause-value : goal.returns-clause-value
returns-clause-value c =
    let small = share_small c.args.end c.args.p c.args.p (le_refl c.args.p) c.requires.end_in in
    let end_fits = c.ranges.end in
    let piece_fits : FitsSigned w64 (pos c.args.p) = omega (arith, ints) in
    let fits : FitsSigned w64 (c.args.end *ℤ pos c.args.p) = omega (arith, ints, small.low, small.high) in
    rw c.from.ensures (simp to_z-of_z)

pub returns-clause-small : goal.returns-clause-small
returns-clause-small c = rw (returns-clause-value c) (share_small c.args.end c.args.p c.args.p (le_refl c.args.p) c.requires.end_in)
