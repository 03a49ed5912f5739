-- The sets so far have lists with this many cells together, and no list is long.
use Rattle.std.proofs.Common.{◌*◌, ◌≤◌, take}
use Rattle.drm_build.specs.Sets.{HaveEntries}
use Rattle.drm_build.proofs.sets.entries.Given as goal

abbrev pub invariant-loop-set : goal.invariant-loop-set
invariant-loop-set l = (l.total ≤ l.set-index * 65536) × HaveEntries (take l.set-index l.sets) l.total
