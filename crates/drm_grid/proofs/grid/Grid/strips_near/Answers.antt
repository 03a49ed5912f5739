-- In whole units, the interval is widened by `far` on both sides.
use Rattle.std.proofs.Common.{FitsSigned, w32, w64, rules, ◌≡◌, ◌+◌, pos, ◌+ℤ◌, ◌-ℤ◌, ap, ◌∙◌, arith, ℤ}
use Rattle.std.proofs.lemmas.Int.{to_z-of_z, ints}
use Rattle.drm_num.specs.Interval.{unit}
use Rattle.drm_num.specs.Quotient.{floor, ceiling}
use Rattle.drm_grid.specs.Layout.{line_at}
use Rattle.drm_grid.proofs.StripLemmas.{near_in_units, units_ordered}
use Rattle.drm_grid.proofs.grid.Grid.strips_near.Goals as goal

pub strips_met-requires-clause-ordered : goal.strips_met-requires-clause-ordered
strips_met-requires-clause-ordered c =
    let lo_fits : FitsSigned w64 c.lo.result = search rules in
    let hi_fits : FitsSigned w64 c.hi.result = search rules in
    let above : c.units_above.result ≡ ceiling c.args.x.lo unit = (simp to_z-of_z at c.units_above.ensures.value) ∙ ap (λ (z : ℤ). ceiling z unit) c.lo.ensures.value in
    let below : c.units_below.result ≡ floor c.args.x.hi unit = (simp to_z-of_z at c.units_below.ensures.value) ∙ ap (λ (z : ℤ). floor z unit) c.hi.ensures.value in
    let ordered = units_ordered c.args.x c.lo.ensures.ordered in
    let far = c.requires.far in
    let small = c.units_above.ensures.small in
    let small_too = c.units_below.ensures.small in
    omega (arith, ints)

pub returns-clause-exact : goal.returns-clause-exact
returns-clause-exact c = λ k h.
    let lo_fits : FitsSigned w64 c.lo.result = search rules in
    let hi_fits : FitsSigned w64 c.hi.result = search rules in
    let above : c.units_above.result ≡ ceiling c.args.x.lo unit = (simp to_z-of_z at c.units_above.ensures.value) ∙ ap (λ (z : ℤ). ceiling z unit) c.lo.ensures.value in
    let below : c.units_below.result ≡ floor c.args.x.hi unit = (simp to_z-of_z at c.units_below.ensures.value) ∙ ap (λ (z : ℤ). floor z unit) c.hi.ensures.value in
    let met = c.strips_met.ensures.exact k h in
    let far = c.requires.far in
    let near = near_in_units c.args.x (line_at c.args.self.now k) (line_at c.args.self.now (k + 1)) (pos c.args.far) (omega (arith, ints)) in
    let small = c.units_above.ensures.small in
    let small_too = c.units_below.ensures.small in
    let start_fits : FitsSigned w32 (c.units_above.result -ℤ pos c.args.far) = omega (arith, ints) in
    let end_fits : FitsSigned w32 (c.units_below.result +ℤ pos c.args.far) = omega (arith, ints) in (
      λ is. met.0 (record { starts = let a = (near.0 is).0 in omega (arith, ints); ends = let b = (near.0 is).1 in omega (arith, ints) }),
      λ is. let m = met.1 is in let s = m.starts in let e = m.ends in near.1 (omega (arith, ints), omega (arith, ints)),
    )
