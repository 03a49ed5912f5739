-- One more candidate is refused, is the end, or there is none left.
use Rattle.std.proofs.Common.{◌≡◌, ◌+◌, drop, get_or, refl, ◌∙◌}
use Rattle.std.proofs.lemmas.List.{take_all}
use Rattle.drm_attach.specs.Attached.{IsFree, Refuses, nodes_tried}
use Rattle.drm_attach.proofs.AttachedLemmas.{tries_none, tries_more, tried_before}
use Rattle.drm_attach.proofs.ends.attach_with.Goals as goal

pub loop-node-init : goal.loop-node-init
loop-node-init c = (rw c.new-tried.ensures.items (tries_none c.args.map.now c.args.snap.now c.args.at.now c.args.way c.as_slice-node-items.result.now), refl)

pub refusal-requires-clause-lent : goal.refusal-requires-clause-lent
refusal-requires-clause-lent c = c.loop-node.invariant.1 ∙ c.requires.lent

pub returns-in-None-clause-exact : goal.returns-in-None-clause-exact
returns-in-None-clause-exact c =
    let nodes = c.as_slice-node-items.result.now in
    let i = c.loop-node.node-index in
    let free : IsFree c.args.map.now c.args.snap.now c.args.at.now c.args.way (get_or nodes i 0) = rw c.in-None.is at c.refusal.ensures.why in
    rw c.from_vec-tried.ensures
    record {
      nodes = nodes;
      rest = drop (i + 1) nodes;
      candidates = rw c.as_slice-node-items.ensures.value c.nearest-nodes.ensures.exact;
      in_turn = tried_before c.args.map.now c.args.snap.now c.args.at.now c.args.way nodes i c.loop-node.tried.items c.loop-node.invariant.0 c.loop-node-test.true;
      refused = c.loop-node.invariant.0.refused;
      free = free;
    }

pub loop-node-preserved : goal.loop-node-preserved
loop-node-preserved c =
    let nodes = c.as_slice-node-items.result.now in
    let i = c.loop-node.node-index in
    let is : Refuses c.args.map.now c.args.snap.now c.args.at.now c.args.way (get_or nodes i 0) c.in-Some.why = rw c.in-Some.is at c.refusal.ensures.why in (
      rw c.in_ok-push-in-Some.ensures.items
          (tries_more c.args.map.now c.args.snap.now c.args.at.now c.args.way nodes i c.loop-node.tried.items c.in-Some.why c.loop-node.invariant.0 c.loop-node-test.true is),
      c.refusal.ensures.lent ∙ c.loop-node.invariant.1,
    )

pub returns-clause-exact : goal.returns-clause-exact
returns-clause-exact c =
    let nodes = c.as_slice-node-items.result.now in
    let all : nodes_tried c.loop-node.tried.items ≡ nodes = c.loop-node.invariant.0.in_turn ∙ take_all c.loop-node.node-index nodes c.loop-node-test.false in
    rw c.from_vec.ensures
    record {
      candidates = rw (all, c.as_slice-node-items.ensures.value) c.nearest-nodes.ensures.exact;
      refused = c.loop-node.invariant.0.refused;
    }
