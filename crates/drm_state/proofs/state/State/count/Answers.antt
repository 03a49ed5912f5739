-- What the table covers is what the journal leaves occupied.
use Rattle.drm_state.proofs.SceneLemmas.{count_in_scene}
use Rattle.drm_state.proofs.state.State.count.Goals as goal

pub returns-in-Some-clause-count : goal.returns-in-Some-clause-count
returns-in-Some-clause-count c = record {
  count = count_in_scene _ _ _ _ c.self.inside.journal.items _ _ _ c.args.e _ _
      c.deref-in-Some.ensures c.deref-in-Some-3.ensures c.grid.ensures.exact c.deref-in-Some-2.ensures.value
      c.stored.ensures.cells c.self.view_is c.self.invariant.table c.covered_among.ensures;
}
