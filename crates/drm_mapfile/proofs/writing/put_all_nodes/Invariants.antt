-- What was written so far.
use Rattle.std.proofs.Common.{◌≡◌, ◌++◌, take}
use Rattle.std.specs.Prelude.{flat_map}
use Rattle.drm_mapfile.specs.Text.{node_text}
use Rattle.drm_mapfile.proofs.writing.put_all_nodes.Given as goal

abbrev pub invariant-loop-i : goal.invariant-loop-i
invariant-loop-i l = l.out.items ≡ l.fn.out.items ++ flat_map node_text (take l.i (l.map.road).nodes)
