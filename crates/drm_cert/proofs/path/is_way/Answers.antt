-- One node more, or one to which no edge leads that is short enough.
use Rattle.std.proofs.Common.{◌≡◌, arith}
use Rattle.drm_cert.proofs.WayLemmas.{way_ends, way_taken}
use Rattle.drm_cert.proofs.path.is_way.Goals as goal

pub returns-in_default : goal.returns-in_default
returns-in_default c =
    way_ends c.args.road.now c.args.snap.now c.args.from c.args.to c.args.length c.loop-next.at c.loop-next.left c.loop-next.next-index c.args.rest.now c.loop-next-test.true c.loop-next.invariant
    (λ w joins fits. let is = (c.joined.ensures w).0 joins in let none = c.in_default.is in absurd cc)

pub returns-then-left-weight : goal.returns-then-left-weight
returns-then-left-weight c =
    way_ends c.args.road.now c.args.snap.now c.args.from c.args.to c.args.length c.loop-next.at c.loop-next.left c.loop-next.next-index c.args.rest.now c.loop-next-test.true c.loop-next.invariant
    (λ w joins fits. let is = (c.joined.ensures w).0 joins in let some = c.in-Some.is in let same : c.in-Some.weight ≡ w = cc in let above = c.if-left-weight.true in omega arith)

pub loop-next-preserved : goal.loop-next-preserved
loop-next-preserved c =
    way_taken c.args.road.now c.args.snap.now c.args.from c.args.to c.args.length c.loop-next.at c.loop-next.left c.loop-next.next-index c.in-Some.weight c.args.rest.now c.loop-next-test.true c.loop-next.invariant
    c.in-Some.ensures c.if-left-weight.false
