-- The first test has passed, and the second decides.
use Rattle.std.proofs.Common.{FitsSigned, w32, rules, subst, sym, ℤ, ◌≤ℤ◌}
use Rattle.std.proofs.lemmas.Int.{to_z-of_z}
use Rattle.drm_grid.proofs.StripLemmas.{le_from_test, test_from_le}
use Rattle.drm_grid.proofs.grid.Grid.meets_strip.Goals as goal

pub returns-then-line_at-high : goal.returns-then-line_at-high
returns-then-line_at-high c =
    let low = c.ranges.low in
    let high = c.ranges.high in
    let first_fits : FitsSigned w32 c.line_at.result = search rules in
    let next_fits : FitsSigned w32 c.line_at-then-line_at-high.result = search rules in
    let first = le_from_test c.line_at.result c.args.high (simp to_z-of_z at c.if-line_at-high.true) in (
      (λ yes. record {
        starts = subst (λ (line : ℤ). c.args.low ≤ℤ line) c.line_at-then-line_at-high.ensures.exact (le_from_test c.args.low c.line_at-then-line_at-high.result (simp to_z-of_z at yes));
        ends = subst (λ (line : ℤ). line ≤ℤ c.args.high) c.line_at.ensures.exact first;
      }),
      (λ meets. simp to_z-of_z (test_from_le c.args.low c.line_at-then-line_at-high.result (subst (λ (line : ℤ). c.args.low ≤ℤ line) (sym c.line_at-then-line_at-high.ensures.exact) meets.starts))),
    )
