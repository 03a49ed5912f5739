use Rattle.std.proofs.Common.{◌≡◌, ap, arith}
use Rattle.std.proofs.lemmas.Int.{ints}
use Rattle.drm_num.specs.Interval.{Interval}
use Rattle.drm_num.proofs.IntervalLemmas.{same_ends, Lies-sum}
use Rattle.drm_num.proofs.interval.Iv.add.Goals as goal

pub invariant_of-result : goal.invariant_of-result
invariant_of-result c =
    let self_lo : c.self.inside.lo ≡ c.args.self.lo = ap (λ (s : Interval). s.lo) c.self.view_is in
    let self_hi : c.self.inside.hi ≡ c.args.self.hi = ap (λ (s : Interval). s.hi) c.self.view_is in
    let b_lo : c.b.inside.lo ≡ c.args.b.lo = ap (λ (s : Interval). s.lo) c.b.view_is in
    let b_hi : c.b.inside.hi ≡ c.args.b.hi = ap (λ (s : Interval). s.hi) c.b.view_is in
    omega (arith, ints)

pub returns-clause-value : goal.returns-clause-value
returns-clause-value c =
    let self_lo : c.self.inside.lo ≡ c.args.self.lo = ap (λ (s : Interval). s.lo) c.self.view_is in
    let self_hi : c.self.inside.hi ≡ c.args.self.hi = ap (λ (s : Interval). s.hi) c.self.view_is in
    let b_lo : c.b.inside.lo ≡ c.args.b.lo = ap (λ (s : Interval). s.lo) c.b.view_is in
    let b_hi : c.b.inside.hi ≡ c.args.b.hi = ap (λ (s : Interval). s.hi) c.b.view_is in
    same_ends _ _ (omega (arith, ints)) (omega (arith, ints))

pub returns-clause-contains : goal.returns-clause-contains
returns-clause-contains c = λ x y h k. rw (returns-clause-value c) (Lies-sum h k)
