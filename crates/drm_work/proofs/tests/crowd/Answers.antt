-- One more line is of a caller below eight, and any map serves it.
use Rattle.std.proofs.Common.{◌<◌, ◌∷◌, [], length, length-append, ap, ◌∙◌, arith}
use Rattle.std.proofs.lemmas.List.Elements.{All-push}
use Rattle.drm_talk.specs.declared.Line.{Line}
use Rattle.drm_cellmap.specs.Roadmap.{Roadmap}
use Rattle.drm_share.specs.Limits.{most_callers}
use Rattle.drm_work.specs.Lines.{IsServable}
use Rattle.drm_work.proofs.tests.crowd.Goals as goal

pub loop-place-preserved : goal.loop-place-preserved
loop-place-preserved c =
    let before = c.loop-place.invariant in
    let items = c.push_reserved.ensures.items in
    let longer = ap length items ∙ length-append c.loop-place.lines.items (_ ∷ []) in (
      omega (arith, longer, before.0),
      omega (arith, before.1, c.push_reserved.ensures.capacity),
      rw items (All-push (λ (line : Line). line.caller < most_callers) _ _ before.2 (omega arith)),
      (λ (map : Roadmap). rw items (All-push (λ (line : Line). IsServable map line.act) _ _ (before.3 map) (c.act.ensures map))),
    )

pub returns-clause-served : goal.returns-clause-served
returns-clause-served c map = rw c.from_vec.ensures (c.loop-place.invariant.3 map)
