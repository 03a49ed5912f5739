-- An edge that is not barred.
use Rattle.drm_grid.specs.CellSet.{Has}
use Rattle.drm_route.proofs.RoundLemmas.{open_relaxes}
use Rattle.drm_route.proofs.labels.relax_at.Goals as goal

pub returns : goal.returns
returns c =
    let clear : Has c.args.snap.now.edges c.args.i → ⊥ = λ h. let is = c.edge_barred.ensures.1 h in absurd cc in
    open_relaxes c.args.road.now c.args.snap.now c.args.labels.now c.relax_edge.new.labels c.args.i c.relax_edge.result c.requires.edge clear c.relax_edge.ensures
