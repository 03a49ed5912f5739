use Rattle.drm_share.proofs.RuleLemmas.{admits}
use Rattle.drm_share.proofs.opened.reader.Goals as goal

pub reader-requires : goal.reader-requires
reader-requires g c = admits
