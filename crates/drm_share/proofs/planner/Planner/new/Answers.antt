-- The new passes are one for each caller.
use Rattle.std.proofs.Common.{◌≡◌, ℕ, List, map, sym, ◌∙◌, ap, subst}
use Rattle.std.specs.List.{range_with_len}
use Rattle.drm_share.specs.Seen.{Seen, fresh}
use Rattle.drm_share.specs.Opening.{Opening}
use Rattle.drm_share.specs.Closing.{AreOneEach}
use Rattle.drm_share.proofs.ClosingLemmas.{fresh_one_each}
use Rattle.drm_share.proofs.planner.Planner.new.Goals as goal

pub returns-clause-one_each : goal.returns-clause-one_each
returns-clause-one_each g c =
    let callers = ap (λ (o : Opening). o.callers) c.opened.view_is ∙ c.requires.callers in
    let dealt : c.from_vec.result ≡ map fresh (range_with_len 0 g.L.Ledger.parts) =
    c.from_vec.ensures ∙ (c.deal-passes.ensures.passes ∙ ap (λ (n : ℕ). map fresh (range_with_len 0 n)) callers) in
    subst (λ (passes : List Seen). AreOneEach g.L.Ledger.parts passes) (sym dealt) (fresh_one_each g.L.Ledger.parts)
