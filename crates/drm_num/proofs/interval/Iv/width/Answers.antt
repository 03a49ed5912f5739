use Rattle.std.proofs.Common.{◌≡◌, ap, arith}
use Rattle.std.proofs.lemmas.Int.{ints}
use Rattle.drm_num.specs.Interval.{Interval}
use Rattle.drm_num.proofs.IntervalLemmas.{Lies-difference}
use Rattle.drm_num.proofs.interval.Iv.width.Goals as goal

pub returns-clause-value : goal.returns-clause-value
returns-clause-value c =
    let self_lo : c.self.inside.lo ≡ c.args.self.lo = ap (λ (s : Interval). s.lo) c.self.view_is in
    let self_hi : c.self.inside.hi ≡ c.args.self.hi = ap (λ (s : Interval). s.hi) c.self.view_is in
    omega (arith, ints)

pub returns-clause-widest : goal.returns-clause-widest
returns-clause-widest c = λ x y h k. rw (returns-clause-value c) (Lies-difference h k).below
