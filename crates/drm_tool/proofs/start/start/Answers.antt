-- Each status with its outcome, over the words that were given.
use Rattle.std.proofs.Common.{◌≡◌, ◌∙◌, sym, inl, inr}
use Rattle.drm_command.specs.declared.stop.Stop.TheVariants.{Memory}
use Rattle.drm_command.specs.declared.ending.End.TheVariants.{Stopped}
use Rattle.drm_tool.specs.Start.{words_given}
use Rattle.drm_tool.proofs.EndLemmas.{end_status, end_done, end_refused, end_shelf, end_source, end_sink, sink_is, end_memory, done_is, end_true}
use Rattle.drm_tool.proofs.start.start.Goals as goal

pub returns-in-Ok-clause-done : goal.returns-in-Ok-clause-done
returns-in-Ok-clause-done g c =
    let given : c.deref.result.now ≡ words_given c.args.arguments = c.deref.ensures.value ∙ c.in-Ok.ensures.words in
    rw (c.from.ensures, c.status.ensures, ← given) (end_done _ c.outcome_of-outcome.result _ _ _ c.outcome_of-outcome.ensures.done c.finish-end.ensures.ended)

pub returns-in-Ok-clause-refused : goal.returns-in-Ok-clause-refused
returns-in-Ok-clause-refused g c =
    let given : c.deref.result.now ≡ words_given c.args.arguments = c.deref.ensures.value ∙ c.in-Ok.ensures.words in
    rw (c.from.ensures, c.status.ensures, ← given) (end_refused _ c.outcome_of-outcome.result _ _ _ c.outcome_of-outcome.ensures.stop c.finish-end.ensures.ended)

pub returns-in-Ok-clause-source : goal.returns-in-Ok-clause-source
returns-in-Ok-clause-source g c =
    let given : c.deref.result.now ≡ words_given c.args.arguments = c.deref.ensures.value ∙ c.in-Ok.ensures.words in
    rw (c.from.ensures, c.status.ensures, ← given) (λ is.
    let h = end_source c.outcome_of-outcome.result _ _ _ c.finish-end.ensures.ended is in (c.outcome_of-outcome.ensures.at_source h.0, h.1))

pub returns-in-Ok-clause-read_fault : goal.returns-in-Ok-clause-read_fault
returns-in-Ok-clause-read_fault g c = rw (c.from.ensures, c.status.ensures) (record {
  later = c.outcome_of-outcome.ensures.read_fault.later;
  rose = λ is. c.outcome_of-outcome.ensures.read_fault.rose (end_source c.outcome_of-outcome.result _ _ _ c.finish-end.ensures.ended is).0;
})

pub returns-in-Ok-clause-shelf : goal.returns-in-Ok-clause-shelf
returns-in-Ok-clause-shelf g c =
    let given : c.deref.result.now ≡ words_given c.args.arguments = c.deref.ensures.value ∙ c.in-Ok.ensures.words in
    rw (c.from.ensures, c.status.ensures, ← given) (λ is.
    let h = end_shelf c.outcome_of-outcome.result _ _ _ c.finish-end.ensures.ended is in
    (elim h.0 [ inl load ↦ c.outcome_of-outcome.ensures.at_load load | inr save ↦ c.outcome_of-outcome.ensures.at_save save ], h.1))

pub returns-in-Ok-clause-shelf_fault : goal.returns-in-Ok-clause-shelf_fault
returns-in-Ok-clause-shelf_fault g c =
    let given : c.deref.result.now ≡ words_given c.args.arguments = c.deref.ensures.value ∙ c.in-Ok.ensures.words in
    rw (c.from.ensures, c.status.ensures, ← given) (λ is.
    elim (end_shelf c.outcome_of-outcome.result _ _ _ c.finish-end.ensures.ended is).0 [
      | inl load ↦ inl (c.outcome_of-outcome.ensures.load_fault load)
      | inr save ↦ inr (c.outcome_of-outcome.ensures.save_fault save)
    ])

pub returns-in-Ok-clause-sink : goal.returns-in-Ok-clause-sink
returns-in-Ok-clause-sink g c =
    let given : c.deref.result.now ≡ words_given c.args.arguments = c.deref.ensures.value ∙ c.in-Ok.ensures.words in
    rw (c.from.ensures, c.status.ensures, ← given)
    (end_sink _ _ c.outcome_of-outcome.result _ _ _ c.outcome_of-outcome.ensures.done c.outcome_of-outcome.ensures.stop c.finish-end.ensures.ended)

pub returns-in-Ok-clause-write_fault : goal.returns-in-Ok-clause-write_fault
returns-in-Ok-clause-write_fault g c = rw (c.from.ensures, c.status.ensures) (record {
  later = c.finish-end.ensures.write_fault.later;
  rose = λ is. c.finish-end.ensures.write_fault.rose (sink_is c.finish-end.result is);
})

pub returns-in-Ok-clause-memory : goal.returns-in-Ok-clause-memory
returns-in-Ok-clause-memory g c =
    let given : c.deref.result.now ≡ words_given c.args.arguments = c.deref.ensures.value ∙ c.in-Ok.ensures.words in
    rw (c.from.ensures, c.status.ensures, ← given) (λ is.
    elim (end_memory _ _ c.outcome_of-outcome.result _ _ _ c.outcome_of-outcome.ensures.done c.outcome_of-outcome.ensures.stop c.finish-end.ensures.ended is) [
      | inl bare ↦ inr (inl (c.outcome_of-outcome.ensures.at_memory bare.0, bare.1))
      | inr owes ↦ inr (inr owes)
    ])

pub returns-in-Ok-clause-noted : goal.returns-in-Ok-clause-noted
returns-in-Ok-clause-noted g c =
    let given : c.deref.result.now ≡ words_given c.args.arguments = c.deref.ensures.value ∙ c.in-Ok.ensures.words in
    let again : c.deref-in-Ok.result.now ≡ words_given c.args.arguments = c.deref-in-Ok.ensures.value ∙ c.in-Ok.ensures.words in
    rw (← given) (record {
      end = c.finish-end.result;
      numbered = c.from.ensures ∙ c.status.ensures;
      ended = end_true _ _ _ c.outcome_of-outcome.result _ _ _ c.outcome_of-outcome.ensures.stop c.outcome_of-outcome.ensures.load_fault c.outcome_of-outcome.ensures.save_fault c.finish-end.ensures.ended;
      told = rw (given ∙ sym again) c.tell.ensures.told;
    })

pub returns-in-Ok-clause-silent : goal.returns-in-Ok-clause-silent
returns-in-Ok-clause-silent g c = rw (c.from.ensures, c.status.ensures) (λ is. c.tell.ensures.silent (done_is c.finish-end.result is))

pub returns-in-Ok-clause-statuses : goal.returns-in-Ok-clause-statuses
returns-in-Ok-clause-statuses g c = rw (c.from.ensures, c.status.ensures) (end_status c.outcome_of-outcome.result _ _ _ c.finish-end.ensures.ended)

pub returns-in-Ok-clause-names : goal.returns-in-Ok-clause-names
returns-in-Ok-clause-names g c =
    let given : c.deref.result.now ≡ words_given c.args.arguments = c.deref.ensures.value ∙ c.in-Ok.ensures.words in
    rw (← given) c.outcome_of-outcome.ensures.names

pub returns-in-Err-clause-noted : goal.returns-in-Err-clause-noted
returns-in-Err-clause-noted g c = record {
  end = Stopped Memory;
  numbered = c.from-in-Err.ensures ∙ c.status-in-Err.ensures;
  ended = tt;
  told = c.tell-in-Err.ensures.told;
}
