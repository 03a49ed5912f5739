-- The lines are in order.
use Rattle.std.proofs.Common.{FitsSigned, w32, w64, rules, ◌≡◌, ◌+◌, ◌*ℤ◌, ap, ◌∙◌, sym, arith, ℤ}
use Rattle.std.proofs.lemmas.Int.{to_z-of_z, ints}
use Rattle.drm_num.specs.Interval.{unit}
use Rattle.drm_num.proofs.Integers.{along, keeps_right}
use Rattle.drm_grid.specs.Layout.{line_at}
use Rattle.drm_grid.proofs.StripLemmas.{line_at-next}
use Rattle.drm_grid.proofs.grid.Grid.strip.Goals as goal

pub of-requires : goal.of-requires
of-requires c =
    let first_fits : FitsSigned w32 c.line_at.result = search rules in
    let next_fits : FitsSigned w32 c.line_at-2.result = search rules in
    let low_fits : FitsSigned w64 c.ulps.result = search rules in
    let high_fits : FitsSigned w64 c.ulps-2.result = search rules in
    let low : c.ulps.result ≡ line_at c.args.self.now c.args.k *ℤ unit = (simp to_z-of_z at c.ulps.ensures.value) ∙ ap (λ (line : ℤ). line *ℤ unit) c.line_at.ensures.exact in
    let high : c.ulps-2.result ≡ line_at c.args.self.now (c.args.k + 1) *ℤ unit = (simp to_z-of_z at c.ulps-2.ensures.value) ∙ ap (λ (line : ℤ). line *ℤ unit) c.line_at-2.ensures.exact in
    simp to_z-of_z (along (sym low) (sym high) (keeps_right unit (omega (arith, ints)) (line_at-next c.args.self.now c.args.k)))
