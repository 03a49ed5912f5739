use Rattle.drm_share.proofs.RuleLemmas.{forks, merges}
use Rattle.drm_share.proofs.opened.informed.Goals as goal

pub tell-requires : goal.tell-requires
tell-requires c = forks _ _

pub learn-requires-clause-rule : goal.learn-requires-clause-rule
learn-requires-clause-rule c = merges _ _ _ _
