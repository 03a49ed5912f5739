-- The sweeps of a roadmap are short.
use Rattle.std.proofs.Common.{List, All, length, ℕ, ◌≤◌, ap, sym, subst, ◌∙◌}
use Rattle.drm_cellmap.specs.Roadmap.{Roadmap, IsRoadmap}
use Rattle.drm_cellmap.proofs.SweepLemmas.{short_sweeps}
use Rattle.drm_cellmap.proofs.map.Map.entries.Goals as goal

pub entries-requires-clause-short : goal.entries-requires-clause-short
entries-requires-clause-short c =
    let limits = subst IsRoadmap c.self.view_is c.self.invariant in
    let same = c.as_slice.ensures ∙ ap (λ (map : Roadmap). map.sweeps) c.self.view_is in
    subst (λ (sweeps : List (List ℕ)). All (λ cells. length cells ≤ 65536) sweeps) (sym same) (short_sweeps c.args.self.now limits)
