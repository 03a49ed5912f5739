-- What was read and what is left are all the sweeps, and their cells are counted.
use Rattle.std.proofs.Common.{◌≡◌, ◌-◌, ◌≤◌, []}
use Rattle.drm_mapfile.specs.Fields.{many}
use Rattle.drm_cellmap.specs.Limits.{max_entries}
use Rattle.drm_cellmap.specs.Roadmap.{entries_of}
use Rattle.drm_mapfile.specs.Reading.{sweep_at}
use Rattle.drm_mapfile.proofs.sweeps.take_sweeps.Given as goal

abbrev pub invariant-loop : goal.invariant-loop
invariant-loop l = record {
  so_far : many (λ front. sweep_at l.total l.cells (entries_of front)) (l.elements - l.counter) l.sweeps.items l.rest ≡ many (λ front. sweep_at l.total l.cells (entries_of front)) l.elements [] l.bytes;
  sum : l.so_far ≡ entries_of l.sweeps.items;
  few : l.so_far ≤ max_entries;
}
