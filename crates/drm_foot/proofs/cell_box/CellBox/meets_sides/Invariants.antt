-- The sides so far do not have the cell on their right.
use Rattle.std.proofs.Common.{ℕ, ◌<◌}
use Rattle.drm_foot.specs.Separation.{HasCellOnRight}
use Rattle.drm_foot.proofs.cell_box.CellBox.meets_sides.Given as goal

abbrev pub invariant-loop-i : goal.invariant-loop-i
invariant-loop-i l = (k : ℕ) → k < l.i → HasCellOnRight l.self.grid l.ring l.self.cell k → ⊥
