use Rattle.std.proofs.Common.{arith, FitsSigned, to_z-of_z, w64}
use Rattle.std.specs.Int.{w128}
use Rattle.std.proofs.lemmas.Int.{ints}
use Rattle.drm_num.specs.Interval.{unit}
use Rattle.drm_num.proofs.SmallLemmas.{IsSmall-floor}
use Rattle.drm_half.proofs.values.floor_of.Goals as goal

pub returns-clause-value : goal.returns-clause-value
returns-clause-value c =
    let n_fits = c.ranges.n in
    let d_fits = c.ranges.d in
    let quotient_is = simp to_z-of_z at c.div_euclid.ensures in
    let small = IsSmall-floor unit c.args.n c.args.d c.requires.positive c.requires.size in
    let wide_fits : FitsSigned w128 c.div_euclid.result = record { sfits = c.div_euclid.type_inv } in
    let fits : FitsSigned w64 c.div_euclid.result = rw quotient_is (omega (arith, ints, small.low, small.high)) in
    simp to_z-of_z quotient_is

pub returns-clause-small : goal.returns-clause-small
returns-clause-small c = rw (returns-clause-value c) (IsSmall-floor unit c.args.n c.args.d c.requires.positive c.requires.size)
