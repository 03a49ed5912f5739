-- What was counted so far.
use Rattle.std.proofs.Common.{◌≡◌, ◌*◌, ◌≤◌, take}
use Rattle.drm_cellmap.specs.Limits.{max_entries}
use Rattle.drm_cellmap.specs.Roadmap.{entries_of}
use Rattle.drm_tool.proofs.commands.build.entries.Given as goal

abbrev pub invariant-loop-place : goal.invariant-loop-place
invariant-loop-place l = (l.total ≡ entries_of (take l.place l.map.sweeps)) × (l.total ≤ l.place * max_entries)
