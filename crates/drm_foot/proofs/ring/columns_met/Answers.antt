-- A strip meets the span where it meets its part from just before the first line to just after the last.
use Rattle.std.proofs.Common.{FitsSigned, w32, w64, to_z-of_z, rules, arith}
use Rattle.std.proofs.lemmas.Int.{ints}
use Rattle.drm_foot.proofs.FootLemmas.{columns_cut}
use Rattle.drm_foot.proofs.ring.columns_met.Goals as goal

pub returns-then-low-high-clause-exact : goal.returns-then-low-high-clause-exact
returns-then-low-high-clause-exact c =
    let span_low : FitsSigned w64 c.args.span.low = search rules in
    let span_high : FitsSigned w64 c.args.span.high = search rules in
    let low_wide : FitsSigned w64 c.clamp-low.result = record { sfits = c.clamp-low.type_inv } in
    let high_wide : FitsSigned w64 c.clamp-high.result = record { sfits = c.clamp-high.type_inv } in
    let low_above = c.clamp-low.ensures.lower_bound in
    let low_below = c.clamp-low.ensures.upper_bound in
    let high_above = c.clamp-high.ensures.lower_bound in
    let high_below = c.clamp-high.ensures.upper_bound in
    let low_fits : FitsSigned w32 c.clamp-low.result = omega (arith, ints) in
    let high_fits : FitsSigned w32 c.clamp-high.result = omega (arith, ints) in
    let low_is = simp to_z-of_z at c.clamp-low.ensures.value in
    let high_is = simp to_z-of_z at c.clamp-high.ensures.value in
    let met = simp to_z-of_z at c.strips_met.ensures.exact in
    λ k below. columns_cut c.args.grid.now c.args.span.low c.args.span.high c.clamp-low.result c.clamp-high.result c.strips_met.result k c.requires below low_is high_is (met k below)

pub returns-clause-exact : goal.returns-clause-exact
returns-clause-exact c =
    let span_low : FitsSigned w64 c.args.span.low = search rules in
    let span_high : FitsSigned w64 c.args.span.high = search rules in
    let low_wide : FitsSigned w64 c.clamp-low.result = record { sfits = c.clamp-low.type_inv } in
    let high_wide : FitsSigned w64 c.clamp-high.result = record { sfits = c.clamp-high.type_inv } in
    let low_above = c.clamp-low.ensures.lower_bound in
    let low_below = c.clamp-low.ensures.upper_bound in
    let high_above = c.clamp-high.ensures.lower_bound in
    let high_below = c.clamp-high.ensures.upper_bound in
    let low_fits : FitsSigned w32 c.clamp-low.result = omega (arith, ints) in
    let high_fits : FitsSigned w32 c.clamp-high.result = omega (arith, ints) in
    let low_is = simp to_z-of_z at c.clamp-low.ensures.value in
    let high_is = simp to_z-of_z at c.clamp-high.ensures.value in
    let met = simp to_z-of_z at c.columns_of_both.ensures.exact in
    λ k below. columns_cut c.args.grid.now c.args.span.low c.args.span.high c.clamp-low.result c.clamp-high.result c.columns_of_both.result k c.requires below low_is high_is (met k below)
