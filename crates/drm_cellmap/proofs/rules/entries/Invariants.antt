-- The cells of the lists so far were counted, and there are no more than each list may have.
use Rattle.std.proofs.Common.{◌≡◌, ◌*◌, ◌≤◌, take}
use Rattle.drm_cellmap.specs.Roadmap.{entries_of}
use Rattle.drm_cellmap.proofs.rules.entries.Given as goal

abbrev pub invariant-loop-cells : goal.invariant-loop-cells
invariant-loop-cells l = (l.total ≤ l.cells-index * 65536) × (l.total ≡ entries_of (take l.cells-index l.sweeps))
