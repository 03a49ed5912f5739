-- The pen of the next entry adds it, and those after it stay.
use Rattle.std.proofs.Common.{◌≡◌, ◌+◌, ◌<◌, ◌≤◌, [], ◌∷◌, length, ap, sym, ◌∙◌, arith, length-append, length-set}
use Rattle.drm_talk.specs.History.{MayFollow}
use Rattle.drm_history.proofs.Steps.{adds_moves}
use Rattle.drm_history.proofs.PenLemmas.{pen_there, rest_ready}
use Rattle.drm_history.proofs.tail.Tail.add.Goals as goal

pub compare_exchange-requires : goal.compare_exchange-requires
compare_exchange-requires g c =
    let offer = c.plain-offer.ensures in
    let counted = c.self.invariant.1 in
    let head = c.self.invariant.2 in
    let may : MayFollow c.self.inside.seen.log c.args.entry (length c.self.inside.seen.log) = rw c.self.view_is c.requires in
    let below : c.self.inside.number < length c.self.inside.pens.items =
    omega (arith, counted.exact, c.self.invariant.3, may.room) in
    let from : length c.self.inside.seen.log ≤ c.self.inside.number = omega (arith, counted.exact) in
    let pen = pen_there _ _ c.self.inside.number c.self.inside.pens.items c.index_mut-pen.result.now _ c.self.invariant.4 from below c.index_mut-pen.ensures.value in
    let same = c.self.invariant.0 ∙ sym (ap (λ w. w.book) head) in (
      ap (λ w. w.tracked) head,
      same,
      pen.0 ∙ sym (ap (λ w. w.book) head),
      offer.0,
      rw (ap (λ w. w.key) head, pen.1, offer.1, offer.3) (adds_moves c.legal_histories_go_on.ensures c.self.inside.seen.log c.args.entry c.self.inside.number counted.exact may),
    )

pub invariant_of-self : goal.invariant_of-self
invariant_of-self g c =
    let counted = c.self.invariant.1 in
    let told = c.compare_exchange.ensures.7 in
    let long : length c.compare_exchange.new.seen.log ≡ c.self.inside.number + 1 =
    omega (arith, ap length told.0, length-append c.self.inside.seen.log (c.plain-offer.result.ask ∷ []), counted.exact) in (
      c.compare_exchange.ensures.0 ∙ c.self.invariant.0,
      record { exact = sym long; legal = told.1 },
      c.self.invariant.2,
      length-set c.self.inside.pens.items c.self.inside.number c.compare_exchange.new.pen ∙ c.self.invariant.3,
      rest_ready _ _ _ c.self.inside.number c.self.inside.pens.items c.compare_exchange.new.pen c.self.invariant.4 (sym counted.exact) long,
    )
