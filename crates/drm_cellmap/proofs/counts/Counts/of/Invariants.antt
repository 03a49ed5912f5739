-- The sweeps so far were counted, one count each.
use Rattle.std.proofs.Common.{ℕ, ◌≡◌, ◌<◌, [], length, get_or}
use Rattle.drm_grid.specs.CellSet.{Has}
use Rattle.drm_cellmap.specs.Tally.{IsTally}
use Rattle.drm_cellmap.proofs.counts.Counts.of.Given as goal

abbrev pub invariant-loop-sweep : goal.invariant-loop-sweep
invariant-loop-sweep l = record {
  one_each : length l.counts.items ≡ l.sweep-index;
  exact : (place : ℕ) → place < l.sweep-index → IsTally (Has l.occupied) (get_or l.map.sweeps place []) (get_or l.counts.items place 0);
}
