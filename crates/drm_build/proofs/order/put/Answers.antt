-- One more of the sets is put.
use Rattle.std.proofs.Common.{arith}
use Rattle.drm_build.proofs.OrderLemmas.{at_first, at_last, last_fits, last_put}
use Rattle.drm_build.proofs.order.put.Goals as goal

pub loop-found-init : goal.loop-found-init
loop-found-init c = at_first c.args.hand.items c.args.slots.now c.requires

pub bounds-slots-place : goal.bounds-slots-place
bounds-slots-place c =
    last_fits c.args.hand.items c.loop-found.left.items c.pop.new.self.items c.args.slots.now c.loop-found.slots c.pop.result c.in-Some.found c.pop.ensures.items c.in-Some.is c.loop-found.invariant

pub loop-found-preserved-in-Some : goal.loop-found-preserved-in-Some
loop-found-preserved-in-Some c =
    last_put c.args.hand.items c.loop-found.left.items c.pop.new.self.items c.args.slots.now c.loop-found.slots c.pop.result c.in-Some.found c.pop.ensures.items c.in-Some.is c.loop-found.invariant

pub loop-found-preserved : goal.loop-found-preserved
loop-found-preserved c =
    last_put c.args.hand.items c.loop-found.left.items c.pop.new.self.items c.args.slots.now c.loop-found.slots c.pop.result c.in-Some.found c.pop.ensures.items c.in-Some.is c.loop-found.invariant

pub returns : goal.returns
returns c = at_last c.args.hand.items c.loop-found.left.items c.args.slots.now c.loop-found.slots (omega (arith, c.in_default.ensures.cases.0, c.loop-found.left.ok.0)) c.loop-found.invariant
