-- Each status with its outcome.
use Rattle.std.proofs.Common.{inl, inr}
use Rattle.drm_tool.proofs.EndLemmas.{end_status, end_done, end_refused, end_shelf, end_sink, sink_is, end_memory}
use Rattle.drm_tool.proofs.commands.check.run_check.Goals as goal

pub returns-clause-done : goal.returns-clause-done
returns-clause-done g c = rw c.status.ensures (end_done _ c.check_words-outcome.result _ _ _ c.check_words-outcome.ensures.done c.finish.ensures.ended)

pub returns-clause-refused : goal.returns-clause-refused
returns-clause-refused g c = rw c.status.ensures (end_refused _ c.check_words-outcome.result _ _ _ c.check_words-outcome.ensures.stop c.finish.ensures.ended)

pub returns-clause-shelf : goal.returns-clause-shelf
returns-clause-shelf g c = rw c.status.ensures (λ is. (end_shelf c.check_words-outcome.result _ _ _ c.finish.ensures.ended is).1)

pub returns-clause-shelf_fault : goal.returns-clause-shelf_fault
returns-clause-shelf_fault g c = rw c.status.ensures (λ is.
    elim (end_shelf c.check_words-outcome.result _ _ _ c.finish.ensures.ended is).0 [ inl load ↦ c.check_words-outcome.ensures.fault load | inr save ↦ absurd (c.check_words-outcome.ensures.no_save save) ])

pub returns-clause-sink : goal.returns-clause-sink
returns-clause-sink g c = rw c.status.ensures (end_sink _ _ c.check_words-outcome.result _ _ _ c.check_words-outcome.ensures.done c.check_words-outcome.ensures.stop c.finish.ensures.ended)

pub returns-clause-write_fault : goal.returns-clause-write_fault
returns-clause-write_fault g c = rw c.status.ensures (record {
  later = c.finish.ensures.write_fault.later;
  rose = λ is. c.finish.ensures.write_fault.rose (sink_is c.finish.result is);
})

pub returns-clause-memory : goal.returns-clause-memory
returns-clause-memory g c = rw c.status.ensures (λ is.
    elim (end_memory _ _ c.check_words-outcome.result _ _ _ c.check_words-outcome.ensures.done c.check_words-outcome.ensures.stop c.finish.ensures.ended is) [
      | inl bare ↦ inl (c.check_words-outcome.ensures.at_memory bare.0, bare.1)
      | inr owes ↦ inr owes
    ])

pub returns-clause-statuses : goal.returns-clause-statuses
returns-clause-statuses g c = rw c.status.ensures (end_status c.check_words-outcome.result _ _ _ c.finish.ensures.ended)
