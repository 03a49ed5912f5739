use Rattle.std.proofs.Common.{arith, FitsSigned, w64, ◌*ℤ◌, to_z-of_z}
use Rattle.std.proofs.lemmas.Int.{ints}
use Rattle.drm_num.proofs.SmallLemmas.{IsSmall-product}
use Rattle.drm_num.proofs.product.product.Goals as goal

pub returns-clause-value : goal.returns-clause-value
returns-clause-value c =
    let small = IsSmall-product c.requires.x_in c.requires.y_in in
    let x_fits : FitsSigned w64 c.args.x = omega (arith, ints, c.requires.x_in.low, c.requires.x_in.high) in
    let y_fits : FitsSigned w64 c.args.y = omega (arith, ints, c.requires.y_in.low, c.requires.y_in.high) in
    let fits : FitsSigned w64 (c.args.x *ℤ c.args.y) = omega (arith, ints, small.low, small.high) in
    simp to_z-of_z

pub returns-clause-small : goal.returns-clause-small
returns-clause-small c = rw (returns-clause-value c) (IsSmall-product c.requires.x_in c.requires.y_in)
