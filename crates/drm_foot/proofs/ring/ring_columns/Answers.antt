-- The columns that the narrowed span meets.
use Rattle.std.proofs.Common.{FitsSigned, w32, w64, to_z-of_z, rules, ◌∙◌, ◌+◌, arith}
use Rattle.drm_grid.specs.Layout.{line_at}
use Rattle.drm_grid.proofs.StripLemmas.{line_at-next}
use Rattle.drm_foot.proofs.FootLemmas.{ring_columns, line_small}
use Rattle.drm_foot.proofs.ring.ring_columns.Goals as goal

pub returns : goal.returns
returns c =
    let grid = c.args.grid.now in
    let x0 : FitsSigned w32 c.args.bounds.now.x0 = search rules in
    let x1 : FitsSigned w32 c.args.bounds.now.x1 = search rules in
    let bottom : FitsSigned w32 c.line.result = record { sfits = c.line.type_inv } in
    let top : FitsSigned w32 c.line-2.result = record { sfits = c.line-2.type_inv } in
    let low_fits : FitsSigned w64 c.from.result = record { sfits = c.from.type_inv } in
    let high_fits : FitsSigned w64 c.from-2.result = record { sfits = c.from-2.type_inv } in
    let bottom_fits : FitsSigned w64 c.from-bottom.result = record { sfits = c.from-bottom.type_inv } in
    let top_fits : FitsSigned w64 c.from-top.result = record { sfits = c.from-top.type_inv } in
    let low_is = c.from.ensures ∙ to_z-of_z x0 in
    let high_is = c.from-2.ensures ∙ to_z-of_z x1 in
    let bottom_is = c.from-bottom.ensures ∙ to_z-of_z bottom ∙ c.line.ensures.exact in
    let top_is = c.from-top.ensures ∙ to_z-of_z top ∙ c.line-2.ensures.exact in
    let narrowed = rw (low_is, high_is, bottom_is, top_is) at (simp to_z-of_z at c.narrowed.ensures) in
    ring_columns grid c.args.ring.now c.args.bounds.now c.args.row c.columns_met.result c.requires.bounds c.requires.on_grid c.requires.met c.columns_met.ensures.within
    (λ k below.
    let line = line_small grid k c.line.ensures.limits (omega arith) in
    let met = narrowed (line_at grid k) (line_at grid (k + 1)) line.low (line_at-next grid k) in
    let columns = c.columns_met.ensures.exact k below in
    (λ both. columns.0 (met.1 both), λ between. met.0 (columns.1 between)))
