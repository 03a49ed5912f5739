-- The answers to the events that are left follow those that were given.
use Rattle.std.proofs.Common.{◌≡◌, ℕ, ◌+◌, List, [], ◌∷◌, ◌++◌, length, drop, get_or, sym, ◌∙◌, ap, subst, append_assoc, append-nil, None}
use Rattle.std.proofs.lemmas.List.{at_drop_more, at_drop_all, length-replicate}
use Rattle.drm_num.proofs.Lists.{any_default}
use Rattle.drm_core.specs.Machine.{Machine, answer, after, answers, MayCome}
use Rattle.drm_core.specs.declared.event.Event.{Event}
use Rattle.drm_core.specs.declared.event.Event.TheVariants.{Edit}
use Rattle.drm_core.specs.declared.event.Told.{Told}
use Rattle.drm_core.proofs.SnapLemmas.{after_seen}
use Rattle.drm_core.proofs.machine.play.Goals as goal

pub answer_to-requires : goal.answer_to-requires
answer_to-requires c =
    let zero : Event = Edit (record { caller = 0; seq = 0; slot = 0; shape = None }) in
    let here : c.event-item.result ≡ get_or c.args.events.now c.loop-event.event-index zero = c.event-item.is ∙ any_default c.args.events.now c.loop-event.event-index c.event-item.result zero c.loop-event-test.true in
    rw here (subst (λ (n : ℕ). MayCome n (get_or c.args.events.now c.loop-event.event-index zero)) (sym c.loop-event.invariant.1)
    (c.requires.events c.loop-event.event-index zero c.loop-event-test.true))

pub loop-event-init : goal.loop-event-init
loop-event-init c = (
  ap (λ (m : Machine). answers m c.args.events.now) (sym c.in_ok-core.ensures)
      ∙ ap (λ (ts : List Told). ts ++ answers c.in_ok-core.core c.args.events.now) (sym c.in_ok-told.ensures.items),
  ap (λ (m : Machine). length m.seen) c.in_ok-core.ensures ∙ length-replicate c.args.callers 0,
)

pub loop-event-preserved : goal.loop-event-preserved
loop-event-preserved c =
    let zero : Event = Edit (record { caller = 0; seq = 0; slot = 0; shape = None }) in
    let here : c.event-item.result ≡ get_or c.args.events.now c.loop-event.event-index zero = c.event-item.is ∙ any_default c.args.events.now c.loop-event.event-index c.event-item.result zero c.loop-event-test.true in
    let core = c.loop-event.core in
    let told = c.loop-event.told.items in
    let rest = drop (c.loop-event.event-index + 1) c.args.events.now in
    let event = get_or c.args.events.now c.loop-event.event-index zero in
    let longer : c.push.new.self.items ≡ told ++ answer core event ∷ [] =
    c.in_ok-push.ensures.items ∙ ap (λ (t : Told). told ++ t ∷ []) (rw here at c.in_ok-answer_to.ensures.answer) in
    let step = at_drop_more (answers core) c.args.events.now c.loop-event.event-index zero c.loop-event-test.true in (
      c.loop-event.invariant.0
          ∙ (ap (λ (ts : List Told). told ++ ts) step
          ∙ (sym (append_assoc told (answer core event ∷ []) (answers (after core event) rest))
          ∙ (ap (λ (ts : List Told). ts ++ answers (after core event) rest) (sym longer)
          ∙ ap (λ (m : Machine). c.push.new.self.items ++ answers m rest) (sym (rw here at c.in_ok-answer_to.ensures.after))))),
      ap (λ (m : Machine). length m.seen) (rw here at c.in_ok-answer_to.ensures.after) ∙ (after_seen core event ∙ c.loop-event.invariant.1),
    )

pub returns : goal.returns
returns c =
    let told = c.loop-event.told.items in
    c.from_vec.ensures
    ∙ sym (c.loop-event.invariant.0
    ∙ (ap (λ (ts : List Told). told ++ ts) (at_drop_all (answers c.loop-event.core) c.args.events.now c.loop-event.event-index c.loop-event-test.false)
    ∙ append-nil told))
