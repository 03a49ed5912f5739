use Rattle.drm_pose.proofs.TangentLemmas.{power_small, shifted_one}
use Rattle.drm_pose.proofs.tangents.power.Goals as goal

pub returns-clause-value : goal.returns-clause-value
returns-clause-value c = shifted_one c.args.exponent c.requires

pub returns-clause-small : goal.returns-clause-small
returns-clause-small c = rw (returns-clause-value c) (power_small c.args.exponent c.requires)
