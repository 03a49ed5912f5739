-- One value gives one link, or the fault of all.
use Rattle.std.proofs.lemmas.Result.{err_from_is_err_and}
use Rattle.drm_robot.proofs.ReadingLemmas.{starts, goes_on, stops, is_done}
use Rattle.drm_robot.proofs.json.links.Goals as goal

pub loop-value-init : goal.loop-value-init
loop-value-init c = starts c.new-links.result.items c.args.array.now c.new-links.ensures.items

pub loop-value-preserved : goal.loop-value-preserved
loop-value-preserved c = goes_on c.loop-value.links.items c.push.new.self.items c.args.array.now c.loop-value.value-index c.value-item.result c.in_ok-link.field-0 _ c.loop-value-test.true c.value-item.is c.in_ok-link.ensures c.in_ok-push.ensures.items c.loop-value.invariant

pub returns-in_err-link : goal.returns-in_err-link
returns-in_err-link c =
    let p = err_from_is_err_and c.from_residual.result c.from_residual.ensures.1 in
    rw (p.1, p.2) (stops c.loop-value.links.items c.args.array.now c.loop-value.value-index c.value-item.result c.in_err-link.field-0.0 _ c.loop-value-test.true c.value-item.is c.in_err-link.ensures c.loop-value.invariant)

pub returns : goal.returns
returns c = is_done c.loop-value.links.items c.args.array.now c.loop-value.value-index _ c.loop-value-test.false c.loop-value.invariant
