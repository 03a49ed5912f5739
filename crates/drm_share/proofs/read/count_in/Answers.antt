use Rattle.std.proofs.Common.{refl}
use Rattle.drm_share.proofs.RuleLemmas.{turns}
use Rattle.drm_share.proofs.read.count_in.Goals as goal

pub enter_as-requires : goal.enter_as-requires
enter_as-requires g c x = turns _ _ x x (λ kept. kept.0) refl
