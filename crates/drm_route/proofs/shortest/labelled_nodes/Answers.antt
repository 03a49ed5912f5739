-- One node more, with a label or without one; and all nodes.
use Rattle.std.proofs.Common.{◌≤◌, length, arith}
use Rattle.drm_route.specs.Search.{HasLabel}
use Rattle.drm_route.proofs.FoundLemmas.{side_push, side_keeps, side_last}
use Rattle.drm_route.proofs.shortest.labelled_nodes.Goals as goal
use Rattle.drm_route.proofs.shortest.labelled_nodes.Goals.{then-has_label+in_ok-push, else-has_label}

pub loop-v-preserved : goal.loop-v-preserved
loop-v-preserved c =
    elim c.if-has_label.branch [
      | then-has_label+in_ok-push w ↦
          rw w.side-is (rw w.in_ok-push.ensures.items (side_push c.args.labels.now c.loop-v.v c.loop-v.side.items (c.has_label.ensures.0 w.if-has_label.true) c.loop-v.invariant))
      | else-has_label w ↦
          let none : HasLabel c.args.labels.now c.loop-v.v → ⊥ = λ h. let is = c.has_label.ensures.1 h in let no = w.if-has_label.false in absurd cc in
          rw w.side-is (side_keeps c.args.labels.now c.loop-v.v c.loop-v.side.items none c.loop-v.invariant)
    ]

pub returns-clause-exact : goal.returns-clause-exact
returns-clause-exact c =
    let all : length c.args.labels.now ≤ c.loop-v.v = omega (arith, c.loop-v-test.false) in
    side_last c.args.labels.now c.loop-v.v c.loop-v.side.items all c.loop-v.invariant
