-- Each shape has its own columns.
use Rattle.std.proofs.Common.{FitsSigned, w32, to_z-of_z, subst, sym, arith}
use Rattle.std.proofs.lemmas.Int.{ints}
use Rattle.drm_grid.specs.Strips.{MeetsStrip}
use Rattle.drm_shape.specs.declared.Shape.{Shape}
use Rattle.drm_shape.specs.Validity.{IsValid}
use Rattle.drm_foot.specs.declared.bounds.Bounds.{Bounds}
use Rattle.drm_foot.specs.Bounds.{IsBoundsOf}
use Rattle.drm_foot.specs.Block.{AreColumns}
use Rattle.drm_foot.proofs.FootLemmas.{rect_columns}
use Rattle.drm_foot.proofs.footprint.columns_of.Goals as goal

pub returns-in-Rect : goal.returns-in-Rect
returns-in-Rect c =
    let valid = subst IsValid c.in-Rect.is c.requires.valid in
    let bounds = subst (λ (shape : Shape). IsBoundsOf shape c.args.bounds.now) c.in-Rect.is c.requires.bounds in
    let met = subst (λ (b : Bounds). MeetsStrip c.args.grid.now b.y0 b.y1 c.args.row) bounds c.requires.met in
    let low = valid.in_range.0 in
    let high = valid.in_range.2 in
    let low_above = low.above in
    let low_below = low.below in
    let high_above = high.above in
    let high_below = high.below in
    let x0 : FitsSigned w32 c.in-Rect.x0 = omega (arith, ints) in
    let x1 : FitsSigned w32 c.in-Rect.x1 = omega (arith, ints) in
    let across = simp to_z-of_z at c.strips_met.ensures.exact in
    subst (λ (shape : Shape). AreColumns c.args.grid.now shape c.args.row c.strips_met.result) (sym c.in-Rect.is)
    (rect_columns c.args.grid.now c.in-Rect.x0 c.in-Rect.y0 c.in-Rect.x1 c.in-Rect.y1 c.args.row c.strips_met.result valid c.requires.on_grid met c.strips_met.ensures.within across)

pub returns-in-Disc : goal.returns-in-Disc
returns-in-Disc c =
    let valid = subst IsValid c.in-Disc.is c.requires.valid in
    let x_low = valid.in_range.0.above in
    let x_high = valid.in_range.0.below in
    let y_low = valid.in_range.1.above in
    let y_high = valid.in_range.1.below in
    let x_fits : FitsSigned w32 c.in-Disc.x = omega (arith, ints) in
    let y_fits : FitsSigned w32 c.in-Disc.y = omega (arith, ints) in
    subst (λ (shape : Shape). AreColumns c.args.grid.now shape c.args.row c.disc_columns.result) (sym c.in-Disc.is) (simp to_z-of_z at c.disc_columns.ensures)

pub returns-in-Poly : goal.returns-in-Poly
returns-in-Poly c = subst (λ (shape : Shape). AreColumns c.args.grid.now shape c.args.row c.ring_columns.result) (sym c.in-Poly.is) c.ring_columns.ensures

pub disc_columns-requires-clause-met : goal.disc_columns-requires-clause-met
disc_columns-requires-clause-met c =
    let valid = subst IsValid c.in-Disc.is c.requires.valid in
    let y_low = valid.in_range.1.above in
    let y_high = valid.in_range.1.below in
    let y_fits : FitsSigned w32 c.in-Disc.y = omega (arith, ints) in
    let bounds = subst (λ (shape : Shape). IsBoundsOf shape c.args.bounds.now) c.in-Disc.is c.requires.bounds in
    rw (to_z-of_z y_fits) (subst (λ (b : Bounds). MeetsStrip c.args.grid.now b.y0 b.y1 c.args.row) bounds c.requires.met)

pub ring_columns-requires-clause-met : goal.ring_columns-requires-clause-met
ring_columns-requires-clause-met c = c.requires.met
