-- The test is made of the gaps between the centre and the cell.
use Rattle.std.proofs.Common.{FitsSigned, w32, to_z-of_z, rules, subst}
use Rattle.drm_grid.specs.Layout.{column_of, row_of}
use Rattle.drm_foot.specs.Square.{Square, AreBounds}
use Rattle.drm_foot.proofs.DiscLemmas.{near_by_numbers, from_near, near_from}
use Rattle.drm_foot.proofs.cell_box.CellBox.meets_disc.Goals as goal

pub gap-requires-clause-low : goal.gap-requires-clause-low
gap-requires-clause-low c =
    let lines = subst (λ (s : Square). AreBounds s c.self.inside.left c.self.inside.right c.self.inside.bottom c.self.inside.top) c.self.view_is c.self.invariant in
    let line : FitsSigned w32 c.self.inside.left = search rules in
    rw (to_z-of_z line) lines.left_small

pub gap-requires-clause-high : goal.gap-requires-clause-high
gap-requires-clause-high c =
    let lines = subst (λ (s : Square). AreBounds s c.self.inside.left c.self.inside.right c.self.inside.bottom c.self.inside.top) c.self.view_is c.self.invariant in
    let line : FitsSigned w32 c.self.inside.right = search rules in
    rw (to_z-of_z line) lines.right_small

pub gap-requires-2-clause-low : goal.gap-requires-2-clause-low
gap-requires-2-clause-low c =
    let lines = subst (λ (s : Square). AreBounds s c.self.inside.left c.self.inside.right c.self.inside.bottom c.self.inside.top) c.self.view_is c.self.invariant in
    let line : FitsSigned w32 c.self.inside.bottom = search rules in
    rw (to_z-of_z line) lines.bottom_small

pub gap-requires-2-clause-high : goal.gap-requires-2-clause-high
gap-requires-2-clause-high c =
    let lines = subst (λ (s : Square). AreBounds s c.self.inside.left c.self.inside.right c.self.inside.bottom c.self.inside.top) c.self.view_is c.self.invariant in
    let line : FitsSigned w32 c.self.inside.top = search rules in
    rw (to_z-of_z line) lines.top_small

pub returns : goal.returns
returns c =
    let square = c.args.self.now in
    let lines = subst (λ (s : Square). AreBounds s c.self.inside.left c.self.inside.right c.self.inside.bottom c.self.inside.top) c.self.view_is c.self.invariant in
    let x_fits : FitsSigned w32 c.args.x = c.ranges.x in
    let y_fits : FitsSigned w32 c.args.y = c.ranges.y in
    let left : FitsSigned w32 c.self.inside.left = search rules in
    let right : FitsSigned w32 c.self.inside.right = search rules in
    let bottom : FitsSigned w32 c.self.inside.bottom = search rules in
    let top : FitsSigned w32 c.self.inside.top = search rules in
    let across = rw (lines.on_left, lines.on_right) at (simp to_z-of_z at c.gap.ensures.value) in
    let up = rw (lines.on_bottom, lines.on_top) at (simp to_z-of_z at c.gap-2.ensures.value) in
    let near = near_by_numbers square.grid c.args.x c.args.y c.args.r (column_of square.grid square.cell) (row_of square.grid square.cell) c.gap.result c.gap-2.result across up in
    let tested = c.is_within.ensures in (
      λ yes. from_near square.grid c.args.x c.args.y c.args.r square.cell lines.in_grid (near.0 (tested.0 yes)),
      λ shares. tested.1 (near.1 (near_from square.grid c.args.x c.args.y c.args.r square.cell shares)),
    )
