-- Each pass stays its caller's, so they are one for each caller as before.
use Rattle.std.proofs.Common.{rules, arith}
use Rattle.drm_share.proofs.ClosingLemmas.{same_callers}
use Rattle.drm_share.proofs.tests.edit_side_by_side.Goals as goal

pub returns : goal.returns
returns g c = λ callers each.
    same_callers callers c.args.passes.now c.for_each_mut.new.s
    (search rules)
    (λ i d below. let kept = (c.for_each_mut.ensures i d below).1 in grind arith)
    each
