-- The raised flags are as many as there are barred elements.
use Rattle.std.proofs.Common.{◌≡◌, ◌∙◌, ap, subst, List, Bool, length}
use Rattle.std.specs.List.{range_with_len}
use Rattle.drm_grid.specs.CellSet.{Has}
use Rattle.drm_cellmap.specs.Tally.{IsTally}
use Rattle.drm_cellmap.specs.Snapshot.{Snapshot}
use Rattle.drm_cellmap.proofs.BarredLemmas.{totals_by_flags}
use Rattle.drm_cellmap.proofs.snap.Snap.totals.Goals as goal

pub returns : goal.returns
returns c =
    let nodes : c.deref.result.now ≡ c.args.self.now.nodes = c.deref.ensures.value ∙ ap (λ (snap : Snapshot). snap.nodes) c.self.view_is in
    let edges : c.deref-2.result.now ≡ c.args.self.now.edges = c.deref-2.ensures.value ∙ ap (λ (snap : Snapshot). snap.edges) c.self.view_is in
    λ map of. totals_by_flags map c.args.self.now c.raised.result c.raised-2.result of
    (subst (λ (flags : List Bool). IsTally (Has flags) (range_with_len 0 (length flags)) c.raised.result) nodes c.raised.ensures)
    (subst (λ (flags : List Bool). IsTally (Has flags) (range_with_len 0 (length flags)) c.raised-2.result) edges c.raised-2.ensures)
