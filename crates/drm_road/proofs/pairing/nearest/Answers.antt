use Rattle.std.proofs.Common.{◌≡◌, [], add-one}
use Rattle.drm_road.specs.Pairs.{gap}
use Rattle.drm_road.proofs.ListLemmas.{get_or_read}
use Rattle.drm_road.proofs.NearestLemmas.{nearest_sorted, nearest_more, nearest_itself}
use Rattle.drm_road.proofs.pairing.nearest.Goals as goal
use Rattle.drm_road.proofs.pairing.nearest.Goals.{then-j-i+in_ok-offer, else-j-i}

pub length-far-requires : goal.length-far-requires
length-far-requires c =
    let from = get_or_read c.args.nodes.now c.args.i c.index-nodes-i.result [] c.requires.node c.index-nodes-i.is in
    let to = get_or_read c.args.nodes.now c.loop-j.j c.index-nodes-j.result [] c.loop-j-test.true c.index-nodes-j.is in
    rw (← from, ← to) (c.requires.alike.joints c.args.i c.loop-j.j c.requires.node c.loop-j-test.true)

pub offer-requires-clause-sorted : goal.offer-requires-clause-sorted
offer-requires-clause-sorted c = nearest_sorted c.args.nodes.now c.args.near c.args.i c.loop-j.j c.loop-j.best.items c.loop-j.invariant

pub loop-j-preserved : goal.loop-j-preserved
loop-j-preserved c = rw add-one (elim c.if-j-i.branch [
  | then-j-i+in_ok-offer w ↦
      let from = get_or_read c.args.nodes.now c.args.i c.index-nodes-i.result [] c.requires.node c.index-nodes-i.is in
      let to = get_or_read c.args.nodes.now c.loop-j.j w.index-nodes-j.result [] c.loop-j-test.true w.index-nodes-j.is in
      let far : w.length-far.result ≡ gap c.args.nodes.now c.args.i c.loop-j.j = rw (from, to) w.length-far.ensures in
      rw w.best-is (nearest_more c.args.nodes.now c.args.near c.args.i c.loop-j.best.items (record { far = w.length-far.result; node = c.loop-j.j }) w.offer.new.best.items w.if-j-i.true far c.loop-j.invariant w.in_ok-offer.ensures)
  | else-j-i w ↦
      let so_far = rw w.if-j-i.false at c.loop-j.invariant in
      rw (w.best-is, w.if-j-i.false) (nearest_itself c.args.nodes.now c.args.near c.args.i c.loop-j.best.items so_far)
])
