-- What was read and what is left are all the edges, and the last one is known.
use Rattle.std.proofs.Common.{◌≡◌, ◌-◌, []}
use Rattle.drm_mapfile.specs.Fields.{many}
use Rattle.drm_mapfile.specs.Reading.{edge_at, last_edge}
use Rattle.drm_mapfile.proofs.road.take_all_edges.Given as goal

abbrev pub invariant-loop : goal.invariant-loop
invariant-loop l = record {
  so_far : many (λ front. edge_at l.total l.nodes (last_edge front)) (l.count - l.counter) l.edges.items l.rest ≡ many (λ front. edge_at l.total l.nodes (last_edge front)) l.count [] l.bytes;
  last : l.last ≡ last_edge l.edges.items;
}
