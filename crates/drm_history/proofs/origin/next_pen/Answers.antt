-- The step may make one more word.
use Rattle.std.proofs.Common.{ap, sym, ◌∙◌}
use Rattle.drm_history.proofs.Steps.{makes_moves}
use Rattle.drm_history.proofs.origin.next_pen.Goals as goal

pub compare_exchange-found-requires : goal.compare_exchange-found-requires
compare_exchange-found-requires c =
    let offer = c.plain-offer.ensures in
    let pen = c.no_pen-pen.ensures in
    let same = ap (λ s. s.book) c.again-seen.ensures in (
      ap (λ w. w.tracked) c.requires.head,
      same ∙ sym (ap (λ w. w.book) c.requires.head),
      pen.0 ∙ (same ∙ sym (ap (λ w. w.book) c.requires.head)),
      offer.0,
      rw (ap (λ w. w.key) c.requires.head, pen.1, offer.3) (makes_moves c.again-seen.result.log c.plain-offer.result.ask c.args.key),
    )
