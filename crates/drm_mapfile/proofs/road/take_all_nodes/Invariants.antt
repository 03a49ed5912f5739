-- What was read and what is left are all the nodes.
use Rattle.std.proofs.Common.{◌≡◌, ◌-◌, [], length}
use Rattle.drm_mapfile.specs.Fields.{many}
use Rattle.drm_mapfile.specs.Reading.{node_at}
use Rattle.drm_mapfile.proofs.road.take_all_nodes.Given as goal

abbrev pub invariant-loop : goal.invariant-loop
invariant-loop l = record {
  so_far : many (node_at l.total l.arm) (l.count - l.counter) l.nodes.items l.rest ≡ many (node_at l.total l.arm) l.count [] l.bytes;
  counted : length l.nodes.items ≡ l.counter;
}
