-- One update is pending, and it keeps the rule.
use Rattle.std.proofs.Common.{◌≡◌, List, [], ◌∷◌, ◌++◌, drop, fold, sym, ◌∙◌, ap, subst}
use Rattle.drm_share.specs.declared.shown.Shown.{Shown}
use Rattle.drm_share.specs.declared.shown.Update.{Update}
use Rattle.drm_share.specs.Published.{next, mark, CanFollow}
use Rattle.drm_share.proofs.RuleLemmas.{turns, mark_stays}
use Rattle.drm_share.proofs.publish.show.Goals as goal

pub publish_as-writer-requires : goal.publish_as-writer-requires
publish_as-writer-requires g c later is =
    let shown = c.append.new.writer.desk.shown.value in
    let update = c.args.with.1 in
    let pending : drop c.append.new.writer.behind c.append.new.writer.log.items ≡ update ∷ [] =
    c.append.ensures.pending ∙ ap (λ (us : List Update). us ++ update ∷ []) c.requires.none_pending in
    let later_is : later ≡ next shown update = is ∙ ap (λ (us : List Update). fold next shown us) pending in
    let can : CanFollow shown update = rw c.append.ensures.desk c.requires.follows in
    turns _ _ shown later
    (λ kept. subst (λ (x : Shown). x.state.journal ≡ x.reach.log) (sym later_is) can.stands)
    (ap mark later_is ∙ mark_stays shown update can)
