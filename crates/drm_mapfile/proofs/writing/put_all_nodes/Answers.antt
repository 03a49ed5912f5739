-- One more node, whose coordinates fit their fields.
use Rattle.drm_mapfile.specs.Text.{node_text}
use Rattle.drm_mapfile.proofs.WritingLemmas.{put_more, node_short}
use Rattle.drm_mapfile.proofs.writing.put_all_nodes.Goals as goal

pub put_node-requires : goal.put_node-requires
put_node-requires c = node_short c.args.map.now c.loop-i.i c.node.result c.road-road.ensures.limits (rw c.road-road.ensures.exact at c.node.ensures.place)

pub loop-i-preserved : goal.loop-i-preserved
loop-i-preserved c =
    let place = rw c.road-road.ensures.exact at c.node.ensures.place in
    put_more node_text c.args.map.now.road.nodes c.loop-i.i c.node.result c.args.out.now.items c.loop-i.out.items c.put_node.new.out.items place c.loop-i.invariant c.in_ok-put_node.ensures
