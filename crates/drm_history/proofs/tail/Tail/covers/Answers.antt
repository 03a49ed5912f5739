-- What both have seen together is no longer than the history, so it is the history.
use Rattle.std.proofs.Common.{◌≡◌, ◌<◌, ◌≤◌, List, length, ap, sym, ◌∙◌, subst, arith, length-set}
use mathlib.Core.List.{IsPrefix}
use Rattle.drm_talk.specs.declared.Entry.{Entry}
use Rattle.drm_history.proofs.FrontLemmas.{legal_within, prefix_whole, prefix_trans, begins_from_prefix}
use Rattle.drm_history.proofs.Steps.{looks_moves}
use Rattle.drm_history.proofs.PenLemmas.{pen_there, again_ready}
use Rattle.drm_history.proofs.tail.Tail.covers.Goals as goal

pub index_mut-pen-requires : goal.index_mut-pen-requires
index_mut-pen-requires g c =
    let within = legal_within c.self.inside.seen.log c.self.invariant.1.legal in
    omega (arith, c.self.invariant.1.exact, c.self.invariant.3)

pub compare_exchange-requires : goal.compare_exchange-requires
compare_exchange-requires g c =
    let offer = c.plain-offer.ensures in
    let counted = c.self.invariant.1 in
    let head = c.self.invariant.2 in
    let within = legal_within c.self.inside.seen.log counted.legal in
    let below : c.self.inside.number < length c.self.inside.pens.items = omega (arith, counted.exact, c.self.invariant.3) in
    let from : length c.self.inside.seen.log ≤ c.self.inside.number = omega (arith, counted.exact) in
    let pen = pen_there _ _ c.self.inside.number c.self.inside.pens.items c.index_mut-pen.result.now _ c.self.invariant.4 from below c.index_mut-pen.ensures.value in
    let same = c.learn.ensures.0 ∙ (ap (λ s. s.book) c.again-seen.ensures ∙ (c.self.invariant.0 ∙ sym (ap (λ w. w.book) head))) in (
      ap (λ w. w.tracked) head,
      same,
      pen.0 ∙ sym (ap (λ w. w.book) head),
      offer.0,
      rw (ap (λ w. w.key) head, pen.1, offer.3) (looks_moves c.learn.new.self.log c.plain-offer.result.ask c.self.inside.number),
    )

pub invariant_of-self : goal.invariant_of-self
invariant_of-self g c =
    let counted = c.self.invariant.1 in
    let within = legal_within c.self.inside.seen.log counted.legal in
    let below : c.self.inside.number < length c.self.inside.pens.items = omega (arith, counted.exact, c.self.invariant.3) in
    let from : length c.self.inside.seen.log ≤ c.self.inside.number = omega (arith, counted.exact) in
    let pen = pen_there _ _ c.self.inside.number c.self.inside.pens.items c.index_mut-pen.result.now _ c.self.invariant.4 from below c.index_mut-pen.ensures.value in (
      c.self.invariant.0,
      counted,
      c.self.invariant.2,
      length-set c.self.inside.pens.items c.self.inside.number c.compare_exchange.new.pen ∙ c.self.invariant.3,
      again_ready _ _ c.self.inside.number c.self.inside.pens.items c.compare_exchange.new.pen c.self.invariant.4
          (c.compare_exchange.ensures.5 ∙ pen.0) (c.compare_exchange.ensures.7.1 ∙ pen.1),
    )

pub returns-clause-begins : goal.returns-clause-begins
returns-clause-begins g c =
    let counted = c.self.invariant.1 in
    let within = legal_within c.self.inside.seen.log counted.legal in
    let below : c.self.inside.number < length c.self.inside.pens.items = omega (arith, counted.exact, c.self.invariant.3) in
    let from : length c.self.inside.seen.log ≤ c.self.inside.number = omega (arith, counted.exact) in
    let pen = pen_there _ _ c.self.inside.number c.self.inside.pens.items c.index_mut-pen.result.now _ c.self.invariant.4 from below c.index_mut-pen.ensures.value in
    let whole = c.compare_exchange.new.seen.log in
    let more : IsPrefix c.learn.new.self.log whole = c.compare_exchange.ensures.6 in
    let mine : IsPrefix c.self.inside.seen.log c.learn.new.self.log =
    subst (λ (l : List Entry). IsPrefix l c.learn.new.self.log) (ap (λ s. s.log) c.again-seen.ensures) c.learn.ensures.2 in
    let theirs : IsPrefix c.args.front.now c.learn.new.self.log =
    subst (λ (l : List Entry). IsPrefix l c.learn.new.self.log) c.sight.ensures.log c.learn.ensures.3 in
    let long : length whole ≤ length c.self.inside.seen.log =
    omega (arith, c.compare_exchange.ensures.7.0, ap (λ p. p.key) pen.1, counted.exact) in
    let same : c.self.inside.seen.log ≡ whole = prefix_whole _ _ (prefix_trans _ _ _ mine more) long in
    begins_from_prefix _ _ (subst (λ (l : List Entry). IsPrefix c.args.front.now l) (sym same) (prefix_trans _ _ _ theirs more))
