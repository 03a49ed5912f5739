-- Both products are small.
use Rattle.std.proofs.Common.{FitsSigned, w64, to_z-of_z, arith}
use Rattle.std.proofs.lemmas.Int.{ints, clamps}
use Rattle.drm_foot.proofs.side.lesser.Goals as goal

pub returns-clause-small : goal.returns-clause-small
returns-clause-small c =
    let first = c.product.ensures.small in
    let second = c.product-2.ensures.small in
    let low = first.low in
    let high = first.high in
    let other_low = second.low in
    let other_high = second.high in
    let first_fits : FitsSigned w64 c.product.result = record { sfits = c.product.type_inv } in
    let second_fits : FitsSigned w64 c.product-2.result = record { sfits = c.product-2.type_inv } in
    let fits : FitsSigned w64 c.min.result = record { sfits = c.min.type_inv } in
    let is = simp to_z-of_z at c.min.ensures.value in
    rw (to_z-of_z fits) (record { low = omega (arith, ints, clamps); high = omega (arith, ints, clamps) })
