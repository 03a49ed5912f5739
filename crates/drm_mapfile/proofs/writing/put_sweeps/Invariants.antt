-- What was written so far.
use Rattle.std.proofs.Common.{◌≡◌, ◌++◌, take}
use Rattle.std.specs.Prelude.{flat_map}
use Rattle.drm_mapfile.specs.Text.{sweep_text}
use Rattle.drm_mapfile.proofs.writing.put_sweeps.Given as goal

abbrev pub invariant-loop-place : goal.invariant-loop-place
invariant-loop-place l = l.out.items ≡ l.fn.out.items ++ flat_map sweep_text (take l.place l.map.sweeps)
