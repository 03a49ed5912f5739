-- The entry decides where it is of the slot.
use Rattle.std.proofs.Common.{◌≡◌, ◌+◌, drop, get_or, Option, None, sym, ◌∙◌, ap}
use Rattle.std.proofs.lemmas.List.{at_drop_more, at_drop_all}
use Rattle.drm_num.proofs.Lists.{any_default}
use Rattle.drm_shape.specs.declared.Shape.{Shape}
use Rattle.drm_talk.specs.declared.Entry.{Entry}
use Rattle.drm_talk.specs.History.{shape_after}
use Rattle.drm_core.proofs.machine.held.Goals as goal

pub loop-entry-preserved : goal.loop-entry-preserved
loop-entry-preserved c =
    let zero : Entry = record { caller = 0; seq = 0; slot = 0; shape = None } in
    let here : c.entry-item.result ≡ get_or c.args.history.now c.loop-entry.entry-index zero = c.entry-item.is ∙ any_default c.args.history.now c.loop-entry.entry-index c.entry-item.result zero c.loop-entry-test.true in
    ap (λ (o : Option Shape). shape_after o c.args.slot (drop (c.loop-entry.entry-index + 1) c.args.history.now)) (rw here at c.replaced-shape.ensures)
    ∙ (sym (at_drop_more (shape_after c.loop-entry.shape c.args.slot) c.args.history.now c.loop-entry.entry-index zero c.loop-entry-test.true) ∙ c.loop-entry.invariant)

pub returns : goal.returns
returns c = sym (at_drop_all (shape_after c.loop-entry.shape c.args.slot) c.args.history.now c.loop-entry.entry-index c.loop-entry-test.false) ∙ c.loop-entry.invariant
