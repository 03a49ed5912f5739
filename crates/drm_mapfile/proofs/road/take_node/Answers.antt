-- A node that was met is told.
use Rattle.std.proofs.Common.{◌∙◌}
use Rattle.drm_mapfile.proofs.RoadLoops.{node_repeats, node_new}
use Rattle.drm_mapfile.proofs.road.take_node.Goals as goal

pub returns-then-contains-clause-exact : goal.returns-then-contains-clause-exact
returns-then-contains-clause-exact c =
    rw c.field.ensures (node_repeats c.args.total c.args.arm.now c.args.before.now c.args.bytes.now c.config_of-node.result c.in_ok-values.values.items c.in_ok-values.rest.now c.contains.result c.in_ok-values.ensures.exact (c.config_of-node.ensures ∙ c.as_slice.ensures.value) c.contains.ensures.value c.if-contains.true)

pub returns-clause-exact : goal.returns-clause-exact
returns-clause-exact c =
    node_new c.args.total c.args.arm.now c.args.before.now c.args.bytes.now c.config_of-node.result c.in_ok-values.values.items c.in_ok-values.rest.now c.contains.result c.in_ok-values.ensures.exact (c.config_of-node.ensures ∙ c.as_slice.ensures.value) c.contains.ensures.value c.if-contains.false
