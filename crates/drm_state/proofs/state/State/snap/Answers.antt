-- What the table covers is what the journal leaves occupied.
use Rattle.std.proofs.Common.{ap, ◌∙◌}
use Rattle.drm_state.specs.Scene.{Scene}
use Rattle.drm_state.proofs.SceneLemmas.{occupied_in_scene, snap_of_scene}
use Rattle.drm_state.proofs.state.State.snap.Goals as goal

pub returns : goal.returns
returns c =
    snap_of_scene c.of-2.result c.in_ok-occupied.occupied _ _ c.args.self.now
    c.number.ensures.exact (c.deref-4.ensures ∙ ap (λ (s : Scene). s.map) c.self.view_is)
    (occupied_in_scene _ _ _ c.self.inside.journal.items _ _ _ _ _ c.deref.ensures c.grid.ensures.exact c.deref-2.ensures.value c.self.view_is c.self.invariant.table c.in_ok-occupied.ensures)
    c.of-2.ensures.number c.of-2.ensures.occupied c.of-2.ensures.barred
