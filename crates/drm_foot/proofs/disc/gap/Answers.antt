-- The gap is the greater of the two differences, or 0.
use Rattle.std.proofs.Common.{FitsSigned, w32, to_z-of_z, arith}
use Rattle.std.specs.Prelude.{◌-ℤ◌}
use Rattle.std.proofs.lemmas.Int.{ints}
use Rattle.drm_foot.proofs.GapLemmas.{gap_found, gap_small}
use Rattle.drm_foot.proofs.disc.gap.Goals as goal

pub returns-clause-value : goal.returns-clause-value
returns-clause-value c =
    let at = c.requires.at in
    let low = c.requires.low in
    let high = c.requires.high in
    let at_fits : FitsSigned w32 c.args.at = c.ranges.at in
    let low_fits : FitsSigned w32 c.args.low = c.ranges.low in
    let high_fits : FitsSigned w32 c.args.high = c.ranges.high in
    let first_fits : FitsSigned w32 (c.args.low -ℤ c.args.at) = omega (arith, ints, at.low, at.high, low.low, low.high) in
    let second_fits : FitsSigned w32 (c.args.at -ℤ c.args.high) = omega (arith, ints, at.low, at.high, high.low, high.high) in
    let greater_fits : FitsSigned w32 c.max.result = record { sfits = c.max.type_inv } in
    let result_fits : FitsSigned w32 c.max-2.result = record { sfits = c.max-2.type_inv } in
    let greater = simp to_z-of_z at c.max.ensures.value in
    let result = simp to_z-of_z at c.max-2.ensures.value in
    rw (to_z-of_z result_fits) (gap_found c.args.at c.args.low c.args.high c.max.result c.max-2.result greater result)

pub returns-clause-small : goal.returns-clause-small
returns-clause-small c = gap_small c.args.at c.args.low c.args.high _ c.requires.at c.requires.low c.requires.high (returns-clause-value c)
