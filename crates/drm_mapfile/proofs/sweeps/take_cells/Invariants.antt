-- What was read and what is left are all the cells, and the least one that may follow is known.
use Rattle.std.proofs.Common.{◌≡◌, ◌-◌, []}
use Rattle.drm_mapfile.specs.Fields.{many}
use Rattle.std.proofs.Common.{length}
use Rattle.drm_mapfile.specs.Reading.{cell_at, least_behind}
use Rattle.drm_mapfile.proofs.sweeps.take_cells.Given as goal

abbrev pub invariant-loop : goal.invariant-loop
invariant-loop l = record {
  so_far : many (λ front. cell_at l.total l.cells (least_behind front)) (l.count - l.counter) l.sweep.items l.rest ≡ many (λ front. cell_at l.total l.cells (least_behind front)) l.count [] l.bytes;
  least : l.least ≡ least_behind l.sweep.items;
  counted : length l.sweep.items ≡ l.counter;
}
