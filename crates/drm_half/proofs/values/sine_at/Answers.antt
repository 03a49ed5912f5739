use Rattle.std.proofs.Common.{FitsSigned, to_z-of_z}
use Rattle.std.specs.Int.{w128}
use Rattle.drm_half.proofs.TurnLemmas.{sine_size}
use Rattle.drm_half.proofs.values.sine_at.Goals as goal

pub quotient-requires-clause-size : goal.quotient-requires-clause-size
quotient-requires-clause-size c =
    let a_fits = c.ranges.a in
    let top_fits : FitsSigned w128 c.sine_top.result = record { sfits = c.sine_top.type_inv } in
    let bottom_fits : FitsSigned w128 c.bottom.result = record { sfits = c.bottom.type_inv } in
    let top_is = simp to_z-of_z at c.sine_top.ensures in
    let bottom_is = simp to_z-of_z at c.bottom.ensures.value in
    simp to_z-of_z (rw (top_is, bottom_is) (sine_size c.args.a))
