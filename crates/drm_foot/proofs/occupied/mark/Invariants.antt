-- The cells so far were added, and no other.
use Rattle.std.proofs.Common.{◌≡◌, ◌⊎◌, ◌↔◌, ℕ, length, take}
use Rattle.std.specs.Prelude.{Contains}
use Rattle.drm_grid.specs.CellSet.{Has}
use Rattle.drm_foot.proofs.occupied.mark.Given as goal

abbrev pub invariant-loop-cell : goal.invariant-loop-cell
invariant-loop-cell l =
    (length l.set ≡ length l.initial.set)
    × ((cell : ℕ) → Has l.set cell ↔ (Has l.initial.set cell ⊎ Contains (take l.cell-index l.cells) cell))
