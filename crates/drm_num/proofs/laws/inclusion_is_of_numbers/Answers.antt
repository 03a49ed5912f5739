use Rattle.drm_num.proofs.InclusionLemmas.{of_numbers}
use Rattle.drm_num.proofs.laws.inclusion_is_of_numbers.Goals as goal

pub returns : goal.returns
returns c = of_numbers
