-- Drawn nodes and their pairs break no rule of roads.
use Rattle.std.proofs.Common.{rules, ◌≡◌, ◌≤◌, length, None, arith}
use Rattle.drm_road.specs.Limits.{max_nodes}
use Rattle.drm_road.specs.RoadFaults.{road_fault}
use Rattle.drm_build.proofs.BuiltLemmas.{pairs_are_road}
use Rattle.drm_build.proofs.building.road_of.Goals as goal

pub unreachable-requires : goal.unreachable-requires
unreachable-requires c =
    let robot = c.args.robot.now in
    let nodes = c.in_ok-nodes.nodes in
    let edges = c.in_ok-edges.edges in
    let count = c.in_ok-nodes.ensures.count in
    let few : length nodes ≤ max_nodes = let draws = robot.few_draws in omega arith in
    let pairs = rw c.as_slice.ensures at c.in_ok-edges.ensures.pairs in
    let paired = rw c.as_slice.ensures at c.in_ok-edges.ensures.few in
    let is = pairs_are_road nodes robot.near edges count.0 few robot.few_near c.in_ok-nodes.ensures.alike pairs paired in
    let none : road_fault nodes edges ≡ None = c.new.ensures.valid.1 is in
    search rules
