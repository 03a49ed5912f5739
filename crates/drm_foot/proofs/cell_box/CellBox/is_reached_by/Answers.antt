-- The lines around the cell are the box that is tested.
use Rattle.std.proofs.Common.{FitsSigned, w32, w64, to_z-of_z, rules, ◌∙◌, subst}
use Rattle.drm_foot.specs.Square.{Square, AreBounds}
use Rattle.drm_foot.proofs.cell_box.CellBox.is_reached_by.Goals as goal

pub reaches-requires-clause-left : goal.reaches-requires-clause-left
reaches-requires-clause-left c =
    let lines = subst (λ (s : Square). AreBounds s c.self.inside.left c.self.inside.right c.self.inside.bottom c.self.inside.top) c.self.view_is c.self.invariant in
    let line : FitsSigned w32 c.self.inside.left = search rules in
    let fits : FitsSigned w64 c.from.result = record { sfits = c.from.type_inv } in
    rw (to_z-of_z fits, c.from.ensures ∙ to_z-of_z line) lines.left_small

pub reaches-requires-clause-right : goal.reaches-requires-clause-right
reaches-requires-clause-right c =
    let lines = subst (λ (s : Square). AreBounds s c.self.inside.left c.self.inside.right c.self.inside.bottom c.self.inside.top) c.self.view_is c.self.invariant in
    let line : FitsSigned w32 c.self.inside.right = search rules in
    let fits : FitsSigned w64 c.from-2.result = record { sfits = c.from-2.type_inv } in
    rw (to_z-of_z fits, c.from-2.ensures ∙ to_z-of_z line) lines.right_small

pub reaches-requires-clause-bottom : goal.reaches-requires-clause-bottom
reaches-requires-clause-bottom c =
    let lines = subst (λ (s : Square). AreBounds s c.self.inside.left c.self.inside.right c.self.inside.bottom c.self.inside.top) c.self.view_is c.self.invariant in
    let line : FitsSigned w32 c.self.inside.bottom = search rules in
    let fits : FitsSigned w64 c.from-3.result = record { sfits = c.from-3.type_inv } in
    rw (to_z-of_z fits, c.from-3.ensures ∙ to_z-of_z line) lines.bottom_small

pub reaches-requires-clause-top : goal.reaches-requires-clause-top
reaches-requires-clause-top c =
    let lines = subst (λ (s : Square). AreBounds s c.self.inside.left c.self.inside.right c.self.inside.bottom c.self.inside.top) c.self.view_is c.self.invariant in
    let line : FitsSigned w32 c.self.inside.top = search rules in
    let fits : FitsSigned w64 c.from-4.result = record { sfits = c.from-4.type_inv } in
    rw (to_z-of_z fits, c.from-4.ensures ∙ to_z-of_z line) lines.top_small

pub returns : goal.returns
returns c =
    let lines = subst (λ (s : Square). AreBounds s c.self.inside.left c.self.inside.right c.self.inside.bottom c.self.inside.top) c.self.view_is c.self.invariant in
    let left : FitsSigned w32 c.self.inside.left = search rules in
    let right : FitsSigned w32 c.self.inside.right = search rules in
    let bottom : FitsSigned w32 c.self.inside.bottom = search rules in
    let top : FitsSigned w32 c.self.inside.top = search rules in
    let one : FitsSigned w64 c.from.result = record { sfits = c.from.type_inv } in
    let two : FitsSigned w64 c.from-2.result = record { sfits = c.from-2.type_inv } in
    let three : FitsSigned w64 c.from-3.result = record { sfits = c.from-3.type_inv } in
    let four : FitsSigned w64 c.from-4.result = record { sfits = c.from-4.type_inv } in
    rw (c.from.ensures ∙ to_z-of_z left ∙ lines.on_left, c.from-2.ensures ∙ to_z-of_z right ∙ lines.on_right, c.from-3.ensures ∙ to_z-of_z bottom ∙ lines.on_bottom, c.from-4.ensures ∙ to_z-of_z top ∙ lines.on_top)
    at (simp to_z-of_z at c.reaches.ensures)
