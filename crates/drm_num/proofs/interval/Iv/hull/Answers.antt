use Rattle.std.proofs.Common.{arith, to_z-of_z}
use Rattle.drm_num.proofs.IntervalLemmas.{Lies-hull_first, Lies-hull_second}
use Rattle.drm_num.proofs.interval.Iv.hull.Goals as goal

pub returns-clause-value : goal.returns-clause-value
returns-clause-value c = grind (arith, to_z-of_z)

pub returns-clause-contains_self : goal.returns-clause-contains_self
returns-clause-contains_self c = λ x h. rw (returns-clause-value c) (Lies-hull_first c.args.self c.args.b h)

pub returns-clause-contains_b : goal.returns-clause-contains_b
returns-clause-contains_b c = λ x h. rw (returns-clause-value c) (Lies-hull_second c.args.self c.args.b h)
