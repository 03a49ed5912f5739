-- One more edge.
use Rattle.drm_mapfile.specs.Text.{edge_text}
use Rattle.drm_mapfile.proofs.WritingLemmas.{put_more}
use Rattle.drm_mapfile.proofs.writing.put_all_edges.Goals as goal

pub loop-i-preserved : goal.loop-i-preserved
loop-i-preserved c = put_more edge_text c.args.road.now.edges c.loop-i.i c.edge.result c.args.out.now.items c.loop-i.out.items c.put_edge.new.out.items c.edge.ensures.place c.loop-i.invariant c.in_ok-put_edge.ensures
