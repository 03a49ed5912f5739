use Rattle.drm_half.proofs.InclusionLemmas.{included_cosine, included_sine}
use Rattle.drm_half.proofs.laws.turns_keep_inclusion.Goals as goal

pub returns-clause-cosines : goal.returns-clause-cosines
returns-clause-cosines c = included_cosine

pub returns-clause-sines : goal.returns-clause-sines
returns-clause-sines c = included_sine
