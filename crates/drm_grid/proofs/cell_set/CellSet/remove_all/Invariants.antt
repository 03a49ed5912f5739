-- The words before the current one have lost the other's bits.
use Rattle.std.proofs.Common.{◌≡◌}
use Rattle.drm_grid.proofs.LeastLemmas.{HasLost}
use Rattle.drm_grid.proofs.cell_set.CellSet.remove_all.Given as goal

abbrev pub invariant-loop-place : goal.invariant-loop-place
invariant-loop-place l = HasLost l.initial.self-inside.words.items l.other-inside.words.items l.self-inside.words.items l.place × (l.self-inside.cells ≡ l.initial.self-inside.cells)
