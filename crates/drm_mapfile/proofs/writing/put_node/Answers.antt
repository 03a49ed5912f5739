-- One more coordinate.
use Rattle.std.proofs.Common.{rules, FitsSigned, w32}
use Rattle.std.proofs.lemmas.Int.{to_z-of_z}
use Rattle.drm_mapfile.specs.Text.{signed}
use Rattle.drm_mapfile.proofs.WritingLemmas.{put_more}
use Rattle.drm_mapfile.proofs.writing.put_node.Goals as goal

pub loop-j-preserved : goal.loop-j-preserved
loop-j-preserved c =
    let fits : FitsSigned w32 c.at.result = search rules in
    let more = rw (to_z-of_z w32 c.at.result fits) at c.in_ok-put_coordinate.ensures in
    put_more signed c.args.node.now c.loop-j.j c.at.result c.args.out.now.items c.loop-j.out.items c.put_coordinate.new.out.items c.at.ensures c.loop-j.invariant more
