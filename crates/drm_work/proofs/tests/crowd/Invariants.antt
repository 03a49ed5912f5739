-- The lines so far are of callers below eight, and any map serves them.
use Rattle.std.proofs.Common.{◌≡◌, ◌≤◌, length}
use Rattle.drm_cellmap.specs.Roadmap.{Roadmap}
use Rattle.drm_work.specs.Lines.{AreServable, HaveCallers}
use Rattle.drm_work.proofs.tests.crowd.Given as goal

abbrev pub invariant-loop-place : goal.invariant-loop-place
invariant-loop-place l =
    (length l.lines.items ≡ l.place) × (160000 ≤ l.lines.cap) × HaveCallers l.lines.items × ((map : Roadmap) → AreServable map l.lines.items)
