-- One leg more is clear, or it is the first that is met, or no leg is left.
use Rattle.std.proofs.Common.{◌≡◌, ℕ, ◌+◌, ◌<◌, ◌≤◌, length, ◌∙◌, arith}
use Rattle.drm_plan.specs.Legs.{IsLeg}
use Rattle.drm_plan.proofs.AnswerLemmas.{leg_in_range}
use Rattle.drm_plan.proofs.LegLemmas.{the_leg, clear_more, all_clear}
use Rattle.drm_plan.proofs.legs.first_met.Goals as goal

pub leg-edge-requires-clause-there : goal.leg-edge-requires-clause-there
leg-edge-requires-clause-there c =
    let test = c.loop-k-test.true in
    let count = c.saturating_sub-k-end.ensures in
    let below : c.loop-k.k + 1 < length c.args.nodes.now = omega arith in
    let found = c.requires.legs c.loop-k.k below in
    rw c.road.ensures.exact (c.args.snap.now, found.0, found.1)

pub edge_meeting-requires-clause-lent : goal.edge_meeting-requires-clause-lent
edge_meeting-requires-clause-lent c = c.loop-k.invariant.1 ∙ c.requires.lent

pub edge_meeting-requires-clause-edge : goal.edge_meeting-requires-clause-edge
edge_meeting-requires-clause-edge c =
    let test = c.loop-k-test.true in
    let count = c.saturating_sub-k-end.ensures in
    let below : c.loop-k.k + 1 < length c.args.nodes.now = omega arith in
    let only : (other : ℕ) → IsLeg c.args.map.now.road c.args.snap.now c.args.nodes.now c.loop-k.k other → other ≡ c.leg-edge.result =
    λ other leg. c.leg-edge.ensures c.args.snap.now other (rw c.road.ensures.exact leg) in
    leg_in_range c.args.map.now c.args.snap.now c.args.nodes.now c.loop-k.k c.leg-edge.result (the_leg c.args.map.now.road c.args.snap.now c.args.nodes.now c.loop-k.k c.leg-edge.result c.requires.legs below only)

pub returns-in-Some : goal.returns-in-Some
returns-in-Some c =
    let test = c.loop-k-test.true in
    let count = c.saturating_sub-k-end.ensures in
    let below : c.loop-k.k + 1 < length c.args.nodes.now = omega arith in
    let only : (other : ℕ) → IsLeg c.args.map.now.road c.args.snap.now c.args.nodes.now c.loop-k.k other → other ≡ c.leg-edge.result =
    λ other leg. c.leg-edge.ensures c.args.snap.now other (rw c.road.ensures.exact leg) in
    record {
      k = c.loop-k.k;
      leg = the_leg c.args.map.now.road c.args.snap.now c.args.nodes.now c.loop-k.k c.leg-edge.result c.requires.legs below only;
      least = rw c.in-Some.is at c.edge_meeting.ensures.least;
      clear = c.loop-k.invariant.0;
    }

pub loop-k-preserved : goal.loop-k-preserved
loop-k-preserved c =
    let only : (other : ℕ) → IsLeg c.args.map.now.road c.args.snap.now c.args.nodes.now c.loop-k.k other → other ≡ c.leg-edge.result =
    λ other leg. c.leg-edge.ensures c.args.snap.now other (rw c.road.ensures.exact leg) in (
      clear_more c.args.map.now c.args.snap.now c.args.nodes.now c.loop-k.k c.leg-edge.result c.loop-k.invariant.0 only (rw c.in-None.is at c.edge_meeting.ensures.least),
      c.edge_meeting.ensures.lent ∙ c.loop-k.invariant.1,
    )

pub returns : goal.returns
returns c =
    let test = c.loop-k-test.false in
    let count = c.saturating_sub-k-end.ensures in
    let all : length c.args.nodes.now ≤ c.loop-k.k + 1 = omega arith in
    all_clear c.args.map.now c.args.snap.now c.args.nodes.now c.loop-k.k all c.loop-k.invariant.0
