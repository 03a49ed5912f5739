-- The product of two numbers below 2 ^ 17 fits.
use Rattle.std.proofs.Common.{arith, FitsSigned, w64, ◌*ℤ◌, to_z-of_z}
use Rattle.std.proofs.lemmas.Int.{ints}
use Rattle.drm_num.proofs.SmallLemmas.{IsSmall-product}
use Rattle.drm_foot.proofs.side.product.Goals as goal

pub returns-clause-value : goal.returns-clause-value
returns-clause-value c =
    let small = IsSmall-product c.requires.a c.requires.b in
    let a_fits : FitsSigned w64 c.args.a = omega (arith, ints, c.requires.a.low, c.requires.a.high) in
    let b_fits : FitsSigned w64 c.args.b = omega (arith, ints, c.requires.b.low, c.requires.b.high) in
    let fits : FitsSigned w64 (c.args.a *ℤ c.args.b) = omega (arith, ints, small.low, small.high) in
    simp to_z-of_z

pub returns-clause-small : goal.returns-clause-small
returns-clause-small c = rw (returns-clause-value c) (IsSmall-product c.requires.a c.requires.b)
