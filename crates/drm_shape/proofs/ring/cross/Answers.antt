-- The difference of the two products fits.
use Rattle.std.proofs.Common.{arith, FitsSigned, w64, ℤ, ◌-ℤ◌, ◌∙◌, ap₂, to_z-of_z}
use Rattle.std.proofs.lemmas.Int.{ints}
use Rattle.drm_shape.proofs.ring.cross.Goals as goal

pub returns : goal.returns
returns c =
    let first = c.product in
    let second = c.product-2 in
    let first_fits : FitsSigned w64 first.result = omega (arith, ints, first.ensures.small.low, first.ensures.small.high) in
    let second_fits : FitsSigned w64 second.result = omega (arith, ints, second.ensures.small.low, second.ensures.small.high) in
    let fits : FitsSigned w64 (first.result -ℤ second.result) = omega (arith, ints, first.ensures.small.low, first.ensures.small.high, second.ensures.small.low, second.ensures.small.high) in
    let x_fits : FitsSigned w64 c.args.x = omega (arith, ints, c.requires.x.low, c.requires.x.high) in
    let y_fits : FitsSigned w64 c.args.y = omega (arith, ints, c.requires.y.low, c.requires.y.high) in
    let u_fits : FitsSigned w64 c.args.u = omega (arith, ints, c.requires.u.low, c.requires.u.high) in
    let v_fits : FitsSigned w64 c.args.v = omega (arith, ints, c.requires.v.low, c.requires.v.high) in
    let left = simp to_z-of_z at first.ensures.value in
    let right = simp to_z-of_z at second.ensures.value in
    rw (to_z-of_z first_fits, to_z-of_z second_fits, to_z-of_z fits) (ap₂ (λ (p : ℤ) (q : ℤ). p -ℤ q) left right)
