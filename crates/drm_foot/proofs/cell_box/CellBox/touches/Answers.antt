-- Each shape has its own test.
use Rattle.std.proofs.Common.{FitsSigned, w32, to_z-of_z, rules, IsTrue, ◌≡◌, ◌↔◌, false, subst, sym, arith}
use Rattle.std.proofs.lemmas.Int.{ints}
use Rattle.drm_shape.specs.declared.Shape.{Shape}
use Rattle.drm_shape.specs.Validity.{IsValid}
use Rattle.drm_foot.specs.Foot.{Foot}
use Rattle.drm_foot.proofs.RectLemmas.{from_reached, column_reached, row_reached}
use Rattle.drm_foot.proofs.RingLemmas.{ring_foot}
use Rattle.drm_foot.proofs.cell_box.CellBox.touches.Goals as goal

pub returns-in-Rect : goal.returns-in-Rect
returns-in-Rect c =
    let square = c.args.self.now in
    let valid = subst IsValid c.in-Rect.is c.requires in
    let x0_low = valid.in_range.0.above in
    let x0_high = valid.in_range.0.below in
    let y0_low = valid.in_range.1.above in
    let y0_high = valid.in_range.1.below in
    let x1_low = valid.in_range.2.above in
    let x1_high = valid.in_range.2.below in
    let y1_low = valid.in_range.3.above in
    let y1_high = valid.in_range.3.below in
    let x0 : FitsSigned w32 c.in-Rect.x0 = omega (arith, ints) in
    let y0 : FitsSigned w32 c.in-Rect.y0 = omega (arith, ints) in
    let x1 : FitsSigned w32 c.in-Rect.x1 = omega (arith, ints) in
    let y1 : FitsSigned w32 c.in-Rect.y1 = omega (arith, ints) in
    let tested = simp to_z-of_z at c.meets_box.ensures.exact in
    subst (λ (shape : Shape). IsTrue c.meets_box.result ↔ Foot square.grid shape square.cell) (sym c.in-Rect.is) (
      λ yes. let both = tested.0 yes in from_reached square.grid c.in-Rect.x0 c.in-Rect.y0 c.in-Rect.x1 c.in-Rect.y1 square.cell c.meets_box.ensures.in_grid valid both.0 both.1,
      λ shares. tested.1 (column_reached square.grid c.in-Rect.x0 c.in-Rect.y0 c.in-Rect.x1 c.in-Rect.y1 square.cell shares, row_reached square.grid c.in-Rect.x0 c.in-Rect.y0 c.in-Rect.x1 c.in-Rect.y1 square.cell shares),
    )

pub returns-in-Disc : goal.returns-in-Disc
returns-in-Disc c =
    let square = c.args.self.now in
    let valid = subst IsValid c.in-Disc.is c.requires in
    let x_low = valid.in_range.0.above in
    let x_high = valid.in_range.0.below in
    let y_low = valid.in_range.1.above in
    let y_high = valid.in_range.1.below in
    let x_fits : FitsSigned w32 c.in-Disc.x = omega (arith, ints) in
    let y_fits : FitsSigned w32 c.in-Disc.y = omega (arith, ints) in
    subst (λ (shape : Shape). IsTrue c.meets_disc.result ↔ Foot square.grid shape square.cell) (sym c.in-Disc.is) (simp to_z-of_z at c.meets_disc.ensures)

pub returns-then-meets_box : goal.returns-then-meets_box
returns-then-meets_box c =
    let square = c.args.self.now in
    let reach = c.meets_box-in-Poly.ensures.exact.0 (let yes : IsTrue c.meets_box-in-Poly.result = search rules in yes) in
    let foot = ring_foot square.grid c.in-Poly.ring c.of_ring.result square.cell (c.of_ring.ensures.across, c.of_ring.ensures.up) c.meets_box-in-Poly.ensures.in_grid in
    subst (λ (shape : Shape). IsTrue c.meets_sides.result ↔ Foot square.grid shape square.cell) (sym c.in-Poly.is) (
      λ yes. foot.0 (reach, c.meets_sides.ensures.0 yes),
      λ apart. c.meets_sides.ensures.1 (foot.1 apart).1,
    )

pub returns-else-meets_box : goal.returns-else-meets_box
returns-else-meets_box c =
    let square = c.args.self.now in
    let fails : c.meets_box-in-Poly.result ≡ false = search rules in
    let foot = ring_foot square.grid c.in-Poly.ring c.of_ring.result square.cell (c.of_ring.ensures.across, c.of_ring.ensures.up) c.meets_box-in-Poly.ensures.in_grid in
    subst (λ (shape : Shape). IsTrue c.meets_box-in-Poly.result ↔ Foot square.grid shape square.cell) (sym c.in-Poly.is) (
      λ yes. cc,
      λ apart. c.meets_box-in-Poly.ensures.exact.1 (foot.1 apart).0,
    )
