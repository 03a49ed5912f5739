use Rattle.std.proofs.Common.{ℕ, List, [], ◌∷◌, ◌++◌, ◌∙◌, ap}
use Rattle.std.proofs.lemmas.List.{replicate_more}
use Rattle.drm_core.proofs.machine.Core.new.Goals as goal

pub loop-i-preserved : goal.loop-i-preserved
loop-i-preserved c =
    c.in_ok-push.ensures.items ∙ (ap (λ (ns : List ℕ). ns ++ 0 ∷ []) c.loop-i.invariant ∙ replicate_more c.loop-i._i 0)
