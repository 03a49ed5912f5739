-- The greater of two shares is small, as each is.
use Rattle.std.proofs.Common.{rules}
use Rattle.drm_pose.proofs.PieceLemmas.{greatest_small}
use Rattle.drm_pose.proofs.parts.greatest_share.Goals as goal

pub returns-clause-value : goal.returns-clause-value
returns-clause-value c = search rules

pub returns-clause-small : goal.returns-clause-small
returns-clause-small c = rw (returns-clause-value c) (greatest_small c.args.end c.args.p c.args.q c.requires.pieces c.requires.end_in)
