-- The box meets the cell's columns and its rows.
use Rattle.std.proofs.Common.{IsTrue, FitsSigned, w32, rules, subst}
use Rattle.std.proofs.lemmas.Int.{to_z-of_z}
use Rattle.drm_grid.specs.Layout.{column_of, row_of}
use Rattle.drm_foot.specs.Square.{Square, AreBounds}
use Rattle.drm_foot.proofs.SquareLemmas.{strip_between}
use Rattle.drm_foot.proofs.cell_box.CellBox.meets_box.Goals as goal

pub returns-then-meet-clause-exact : goal.returns-then-meet-clause-exact
returns-then-meet-clause-exact c =
    let square = c.args.self.now in
    let box = c.args.bounds.now in
    let x0 : FitsSigned w32 c.args.bounds.now.x0 = search rules in
    let x1 : FitsSigned w32 c.args.bounds.now.x1 = search rules in
    let y0 : FitsSigned w32 c.args.bounds.now.y0 = search rules in
    let y1 : FitsSigned w32 c.args.bounds.now.y1 = search rules in
    let left : FitsSigned w32 c.self.inside.left = search rules in
    let right : FitsSigned w32 c.self.inside.right = search rules in
    let bottom : FitsSigned w32 c.self.inside.bottom = search rules in
    let top : FitsSigned w32 c.self.inside.top = search rules in
    let lines = subst (λ (s : Square). AreBounds s c.self.inside.left c.self.inside.right c.self.inside.bottom c.self.inside.top) c.self.view_is c.self.invariant in
    let columns = strip_between square.grid box.x0 box.x1 _ _ (column_of square.grid square.cell) c.meet.result lines.on_left lines.on_right (simp to_z-of_z at c.meet.ensures) in
    let rows = strip_between square.grid box.y0 box.y1 _ _ (row_of square.grid square.cell) c.meet-then-meet.result lines.on_bottom lines.on_top (simp to_z-of_z at c.meet-then-meet.ensures) in
    let first : IsTrue c.meet.result = search rules in
    (λ yes. (columns.0 first, rows.0 yes), λ both. rows.1 both.1)

pub returns-else-meet-clause-exact : goal.returns-else-meet-clause-exact
returns-else-meet-clause-exact c =
    let square = c.args.self.now in
    let box = c.args.bounds.now in
    let x0 : FitsSigned w32 c.args.bounds.now.x0 = search rules in
    let x1 : FitsSigned w32 c.args.bounds.now.x1 = search rules in
    let left : FitsSigned w32 c.self.inside.left = search rules in
    let right : FitsSigned w32 c.self.inside.right = search rules in
    let lines = subst (λ (s : Square). AreBounds s c.self.inside.left c.self.inside.right c.self.inside.bottom c.self.inside.top) c.self.view_is c.self.invariant in
    let columns = strip_between square.grid box.x0 box.x1 _ _ (column_of square.grid square.cell) c.meet.result lines.on_left lines.on_right (simp to_z-of_z at c.meet.ensures) in
    (λ yes. absurd (let false_is = c.if-meet.false in cc), λ both. columns.1 both.0)
