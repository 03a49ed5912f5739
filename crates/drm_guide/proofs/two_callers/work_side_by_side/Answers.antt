-- Each pass stays its caller's, so they are one for each caller as before.
use Rattle.std.proofs.Common.{rules, arith}
use Rattle.drm_guide.proofs.two_callers.work_side_by_side.Goals as goal

pub returns : goal.returns
returns g c = λ callers each.
    c.passes_stay_one_each.ensures callers c.args.passes.now c.for_each_mut.new.s
    (search rules)
    (λ i d below. let kept = (c.for_each_mut.ensures i d below).1 in grind arith)
    each
