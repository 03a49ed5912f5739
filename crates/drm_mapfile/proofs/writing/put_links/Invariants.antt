-- What was written so far.
use Rattle.std.proofs.Common.{◌≡◌, ◌++◌, take}
use Rattle.std.specs.Prelude.{flat_map}
use Rattle.drm_mapfile.specs.Text.{link_text}
use Rattle.drm_mapfile.proofs.writing.put_links.Given as goal

abbrev pub invariant-loop-k : goal.invariant-loop-k
invariant-loop-k l = l.out.items ≡ l.fn.out.items ++ flat_map link_text (take l.k l.arm)
