-- The longer journal and the changed table go together.
use Rattle.std.proofs.Common.{[], ◌∷◌, ◌<◌, length, arith, sym, subst, length-append}
use Rattle.drm_talk.specs.Limits.{slots, full}
use Rattle.drm_state.specs.Scene.{Scene}
use Rattle.drm_state.specs.Edit.{Edit}
use Rattle.drm_state.proofs.KeptLemmas.{longer_table, table_push}
use Rattle.drm_state.proofs.state.State.apply.Goals as goal

pub invariant_of-self : goal.invariant_of-self
invariant_of-self c =
    let taken = c.takes.ensures.taken.0 c.if-takes.true in
    let room : length c.self.inside.journal.items < full = subst (λ (s : Scene). length s.journal < full) (sym c.self.view_is) taken.room in
    let slot : c.op.inside.entry.slot < slots = subst (λ (e : Edit). e.entry.slot < slots) (sym c.op.view_is) taken.slot in
    let reached = longer_table _ _ _ c.self.invariant.table c.lengthen.ensures.same in
    rw (c.push_reserved.ensures.items, c.push_reserved.ensures.capacity) (record {
      table = table_push _ _ _ reached c.lengthen.ensures.reached slot c.op.invariant.valid;
      within = omega (arith, length-append c.self.inside.journal.items (c.op.inside.entry ∷ []));
      entries = c.self.invariant.entries;
      places = omega (arith, c.self.invariant.places, c.lengthen.ensures.capacity);
    })
