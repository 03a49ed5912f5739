-- The sum fits, since labels are small; and it is less than the label, or not.
use Rattle.std.proofs.Common.{◌≤◌, ◌+◌, ◌*◌, refl, arith}
use Rattle.drm_cellmap.specs.Certificates.{IsLabel}
use Rattle.drm_route.specs.Limits.{max_weight}
use Rattle.drm_route.specs.Rounds.{labelled, IsAtMost}
use Rattle.drm_route.proofs.RoundLemmas.{labelled_fits, keeps_label, has_more}
use Rattle.drm_route.proofs.labels.lower.Goals as goal

pub overflow_add-far : goal.overflow_add-far
overflow_add-far c =
    let there = c.label_of.ensures in
    let some = c.in-Some.is in
    let label : IsLabel c.args.labels.now c.args.u c.in-Some.near = cc in
    let low : c.in-Some.near ≤ labelled c.args.labels.now * max_weight = c.requires.small c.args.u c.in-Some.near label in
    omega (arith, labelled_fits c.args.labels.now)

pub returns-then-is_at_most : goal.returns-then-is_at_most
returns-then-is_at_most c =
    let there = c.label_of.ensures in
    let some = c.in-Some.is in
    let label : IsLabel c.args.labels.now c.args.u c.in-Some.near = cc in
    (refl, keeps_label c.args.labels.now c.args.u c.args.v c.args.weight c.in-Some.near c.label_of-2.result label c.label_of-2.ensures (c.is_at_most.ensures.0 c.if-is_at_most.true))

pub returns : goal.returns
returns c =
    let there = c.label_of.ensures in
    let some = c.in-Some.is in
    let label : IsLabel c.args.labels.now c.args.u c.in-Some.near = cc in
    let above : IsAtMost c.label_of-2.result (c.in-Some.near + c.args.weight) → ⊥ = λ most. let is = c.is_at_most.ensures.1 most in let no = c.if-is_at_most.false in absurd cc in
    (c.in-Some.near, label, refl, has_more c.args.labels.now c.args.v (c.in-Some.near + c.args.weight) c.label_of-2.result c.label_of-2.ensures above)
