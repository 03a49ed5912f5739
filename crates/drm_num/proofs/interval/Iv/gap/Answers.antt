use Rattle.std.proofs.Common.{◌≡◌, ◌-ℤ◌, ℤ, pos, ap, ap₂, ◌∙◌, arith, FitsSigned, w64, to_z, of_z, to_z-of_z}
use Rattle.std.proofs.lemmas.Int.{ints}
use Rattle.std.specs.Int.{int_max}
use Rattle.drm_num.specs.Interval.{Interval, IsOrdered}
use Rattle.drm_num.proofs.IntervalLemmas.{gap-meet, gap-apart}
use Rattle.drm_num.proofs.interval.Iv.gap.Goals as goal

pub returns-clause-value : goal.returns-clause-value
returns-clause-value c =
    let self_lo : c.self.inside.lo ≡ c.args.self.lo = ap (λ (s : Interval). s.lo) c.self.view_is in
    let self_hi : c.self.inside.hi ≡ c.args.self.hi = ap (λ (s : Interval). s.hi) c.self.view_is in
    let b_lo : c.b.inside.lo ≡ c.args.b.lo = ap (λ (s : Interval). s.lo) c.b.view_is in
    let b_hi : c.b.inside.hi ≡ c.args.b.hi = ap (λ (s : Interval). s.hi) c.b.view_is in
    let first_is : to_z w64 (of_z w64 (to_z w64 (of_z w64 c.b.inside.lo) -ℤ to_z w64 (of_z w64 c.self.inside.hi))) ≡ c.args.b.lo -ℤ c.args.self.hi = omega (arith, ints) in
    let second_is : to_z w64 (of_z w64 (to_z w64 (of_z w64 c.self.inside.lo) -ℤ to_z w64 (of_z w64 c.b.inside.hi))) ≡ c.args.self.lo -ℤ c.args.b.hi = omega (arith, ints) in
    let farther_fits : FitsSigned w64 c.max.result = record { sfits = c.max.type_inv } in
    let fits : FitsSigned w64 c.max-2.result = record { sfits = c.max-2.type_inv } in
    to_z-of_z fits ∙ c.max-2.ensures.value
    ∙ ap (λ (z : ℤ). int_max z (pos 0)) (to_z-of_z farther_fits ∙ c.max.ensures.value ∙ ap₂ int_max first_is second_is)

pub returns-clause-meet : goal.returns-clause-meet
returns-clause-meet c =
    let self_ordered : IsOrdered c.args.self = rw (← c.self.view_is) c.self.invariant in
    let b_ordered : IsOrdered c.args.b = rw (← c.b.view_is) c.b.invariant in
    rw (returns-clause-value c) (gap-meet self_ordered b_ordered)

pub returns-clause-apart : goal.returns-clause-apart
returns-clause-apart c = λ x y h k. rw (returns-clause-value c) (gap-apart h k)
