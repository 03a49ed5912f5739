-- Each stored sweep has cells of the set's range alone, and few of them.
use Rattle.std.proofs.Common.{ap, subst, ◌∙◌, arith}
use Rattle.drm_cellmap.specs.Roadmap.{Roadmap, IsRoadmap}
use Rattle.drm_cellmap.proofs.SweepLemmas.{row_is_sweep, row_is_short}
use Rattle.drm_cellmap.proofs.counts.Counts.of.Goals as goal

pub tally-requires-clause-in_set : goal.tally-requires-clause-in_set
tally-requires-clause-in_set c =
    let limits = subst IsRoadmap c.map.view_is c.map.invariant in
    let same = c.as_slice-sweep-items.ensures ∙ ap (λ (map : Roadmap). map.sweeps) c.map.view_is in
    let sweep = row_is_sweep c.args.map.now _ c.loop-sweep.sweep-index _ _ limits same c.loop-sweep-test.true c.sweep-item.is c.as_slice-in-loop-sweep.ensures in
    rw c.requires sweep.in_grid

pub tally-requires-clause-few : goal.tally-requires-clause-few
tally-requires-clause-few c =
    let limits = subst IsRoadmap c.map.view_is c.map.invariant in
    let same = c.as_slice-sweep-items.ensures ∙ ap (λ (map : Roadmap). map.sweeps) c.map.view_is in
    omega (arith, row_is_short c.args.map.now _ c.loop-sweep.sweep-index _ _ limits same c.loop-sweep-test.true c.sweep-item.is c.as_slice-in-loop-sweep.ensures)
