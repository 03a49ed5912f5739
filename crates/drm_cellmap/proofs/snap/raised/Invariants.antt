-- The flags so far were counted, and there are no more than there were flags.
use Rattle.std.proofs.Common.{◌≤◌}
use Rattle.std.specs.List.{range_with_len}
use Rattle.drm_grid.specs.CellSet.{Has}
use Rattle.drm_cellmap.specs.Tally.{IsTally}
use Rattle.drm_cellmap.proofs.snap.raised.Given as goal

abbrev pub invariant-loop-flag : goal.invariant-loop-flag
invariant-loop-flag l = (l.count ≤ l.flag-index) × IsTally (Has l.flags) (range_with_len 0 l.flag-index) l.count
