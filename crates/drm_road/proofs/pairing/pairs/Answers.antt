use Rattle.std.proofs.Common.{◌≡◌, length, add-one, arith}
use Rattle.std.proofs.lemmas.List.Filters.{dedup_is}
use Rattle.drm_road.proofs.PairLemmas.{edges_none, edges_more, same_edge, all_pairs, few_pairs}
use Rattle.drm_road.proofs.pairing.pairs.Goals as goal

pub loop-i-init : goal.loop-i-init
loop-i-init c = rw c.new-edges.ensures.items (edges_none c.args.nodes.now c.args.near)

pub loop-i-preserved : goal.loop-i-preserved
loop-i-preserved c = rw (add-one, c.in_ok-join.ensures) (edges_more c.args.nodes.now c.args.near c.loop-i.i c.loop-i.edges.items c.deref.result.now c.loop-i.invariant c.loop-i-test.true (rw c.deref.ensures.value c.in_ok-nearest.ensures))

pub returns-clause-pairs : goal.returns-clause-pairs
returns-clause-pairs c =
    let is = dedup_is same_edge c.sort_unstable.new.self.items c.dedup.new.self.items c.dedup.ensures.filtered in
    let done : c.loop-i.i ≡ length c.args.nodes.now = let end = c.loop-i.auto.i-end in let test = c.loop-i-test.false in omega arith in
    rw c.from_vec.ensures (all_pairs c.args.nodes.now c.args.near c.loop-i.edges.items c.sort_unstable.new.self.items c.dedup.new.self.items (rw done at c.loop-i.invariant) c.sort_unstable.ensures.permutation c.sort_unstable.ensures.sorted is)

pub returns-clause-few : goal.returns-clause-few
returns-clause-few c =
    let is = dedup_is same_edge c.sort_unstable.new.self.items c.dedup.new.self.items c.dedup.ensures.filtered in
    let done : c.loop-i.i ≡ length c.args.nodes.now = let end = c.loop-i.auto.i-end in let test = c.loop-i-test.false in omega arith in
    rw c.from_vec.ensures (few_pairs c.args.nodes.now c.args.near c.loop-i.edges.items c.sort_unstable.new.self.items c.dedup.new.self.items (rw done at c.loop-i.invariant) c.sort_unstable.ensures.permutation is)
