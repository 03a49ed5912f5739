-- The sets of one more hand are put.
use Rattle.std.proofs.Common.{All, Vec, Global}
use Rattle.std.proofs.lemmas.List.Elements.{All-pop}
use Rattle.drm_build.specs.declared.hands.Found.{Found}
use Rattle.drm_build.specs.Found.{IsFound}
use Rattle.drm_build.proofs.OrderLemmas.{right_after, right_empty, written_back}
use Rattle.drm_build.proofs.order.in_order.Goals as goal

pub loop-hand-init : goal.loop-hand-init
loop-hand-init c = (c.requires.found, right_empty c.args.robot.now c.args.road.now c.count_of.result c.in_ok-slots.slots.items c.count_of.ensures c.in_ok-slots.ensures)

pub put-requires : goal.put-requires
put-requires c = λ k d below.
    let both = All-pop (λ (hand : Vec Found Global). All (IsFound c.args.robot.now c.args.road.now) hand.items) c.loop-hand.left.items c.pop.new.self.items c.pop.result c.pop.ensures.items c.loop-hand.invariant.0 in
    let right = rw c.in-Some.is at both.1 in
    rw (c.as_mut_slice.ensures.value, c.loop-hand.invariant.1.one_each) (right k d below).inside

pub loop-hand-preserved : goal.loop-hand-preserved
loop-hand-preserved c =
    let robot = c.args.robot.now in
    let road = c.args.road.now in
    let slots = c.loop-hand.slots in
    let both = All-pop (λ (hand : Vec Found Global). All (IsFound robot road) hand.items) c.loop-hand.left.items c.pop.new.self.items c.pop.result c.pop.ensures.items c.loop-hand.invariant.0 in
    let right = rw c.in-Some.is at both.1 in
    let put = rw c.as_mut_slice.ensures.value at c.put.ensures in
    let after = right_after robot road c.in-Some.hand.items slots.items c.put.new.slots right c.loop-hand.invariant.1 put in
    let back = written_back c.put.new.slots slots.items slots.len put.one_each slots.ok.0 in
    (both.0, rw back after)
