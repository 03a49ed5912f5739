-- The node is the first that is no configuration, or there is none.
use Rattle.std.proofs.Common.{rules, ◌≡◌, ◌<◌, [], false, length, sym, ◌∙◌, arith}
use Rattle.drm_road.specs.Road.{node_of}
use Rattle.drm_cellmap.specs.MapFaults.{is_config}
use Rattle.drm_cellmap.proofs.RuleLoops.{first_place, no_place, miscounted, counted}
use Rattle.drm_cellmap.proofs.rules.first_bad_node.Goals as goal
use Rattle.drm_cellmap.proofs.rules.first_bad_node.Goals.{then-joints-via-then-joints, then-joints-via-else-joints+then-not-is_within}

pub returns-then-joints-clause-first : goal.returns-then-joints-clause-first
returns-then-joints-clause-first c =
    let below : c.loop-i.i < length c.args.road.now.nodes = omega (arith, c.loop-i-test.true, c.nodes-i-end.ensures.count) in
    let fails : is_config c.args.arm.now c.node-node.result ≡ false = elim c.then-joints.branch [
      | then-joints-via-then-joints w ↦
          miscounted c.args.arm.now c.node-node.result (λ same. w.if-joints.true (c.joints.ensures.count ∙ (sym same ∙ sym c.links-joints.ensures.count)))
      | then-joints-via-else-joints+then-not-is_within w ↦
          let same : length c.args.arm.now ≡ length c.node-node.result = sym c.links-joints.ensures.count ∙ (sym w.if-joints.false ∙ c.joints.ensures.count) in
          counted c.args.arm.now c.node-node.result same ∙ (sym w.is_within.ensures ∙ search rules)
    ] in
    let here : is_config c.args.arm.now (node_of c.args.road.now c.loop-i.i) ≡ false = rw (← c.node-node.ensures.exact) fails in
    sym (first_place (is_config c.args.arm.now) c.args.road.now.nodes [] c.loop-i.i below c.loop-i.invariant here)

pub returns-clause-first : goal.returns-clause-first
returns-clause-first c =
    let done : c.loop-i.i ≡ length c.args.road.now.nodes = let end = c.loop-i.auto.i-end in let test = c.loop-i-test.false in omega (arith, c.nodes-i-end.ensures.count) in
    sym (no_place (is_config c.args.arm.now) c.args.road.now.nodes [] (rw done at c.loop-i.invariant))
