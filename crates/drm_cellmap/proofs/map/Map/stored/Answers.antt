-- What is lent is what is stored, and each stored sweep of a roadmap is one.
use Rattle.std.proofs.Common.{ap, subst, ◌∙◌, arith}
use Rattle.drm_cellmap.specs.Roadmap.{Roadmap, IsRoadmap}
use Rattle.drm_cellmap.proofs.SweepLemmas.{element_row_is_sweep, sweep_length_limit}
use Rattle.drm_cellmap.proofs.map.Map.stored.Goals as goal

pub returns-clause-sweep : goal.returns-clause-sweep
returns-clause-sweep c =
    let limits = subst IsRoadmap c.self.view_is c.self.invariant in
    let same = c.as_slice.ensures ∙ ap (λ (map : Roadmap). map.sweeps) c.self.view_is in
    element_row_is_sweep c.args.self.now c.args.e _ _ _ _ limits c.requires same c.place.ensures c.index-as_slice-place.is c.as_slice-2.ensures

pub returns-clause-few : goal.returns-clause-few
returns-clause-few c =
    let limits = subst IsRoadmap c.self.view_is c.self.invariant in
    omega (arith, sweep_length_limit c.args.self.now.grid c.as_slice-2.result.now limits.grid (returns-clause-sweep c))
