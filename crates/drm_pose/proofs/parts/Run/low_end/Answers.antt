-- The end is that of the base and the rounded share of the displacement.
use Rattle.std.proofs.Common.{rules, ◌≡◌, ℤ, pos, ◌^◌, ◌*ℤ◌, ap, ◌∙◌, arith, FitsSigned, w64, to_z-of_z}
use Rattle.std.proofs.lemmas.Int.{ints}
use Rattle.std.specs.Int.{int_min}
use Rattle.drm_num.specs.Quotient.{floor}
use Rattle.drm_num.specs.Small.{IsSmall}
use Rattle.drm_pose.proofs.PieceLemmas.{sum_from}
use Rattle.drm_pose.proofs.parts.Run.low_end.Goals as goal

pub returns-clause-value : goal.returns-clause-value
returns-clause-value c =
    let end_fits : FitsSigned w64 c.lo.result = search rules in
    let share_fits : FitsSigned w64 c.least_share-least.result = search rules in
    let share_plain : c.least_share-least.result ≡ int_min (c.lo.result *ℤ pos c.args.self.now.p) (c.lo.result *ℤ pos c.args.self.now.q) = simp to_z-of_z at c.least_share-least.ensures.value in
    let share : c.least_share-least.result ≡ int_min (c.args.self.now.shift.lo *ℤ pos c.args.self.now.p) (c.args.self.now.shift.lo *ℤ pos c.args.self.now.q) =
    share_plain ∙ ap (λ (t : ℤ). int_min (t *ℤ pos c.args.self.now.p) (t *ℤ pos c.args.self.now.q)) c.lo.ensures.value in
    let quotient_plain : c.floor_of.result ≡ floor c.least_share-least.result (pos c.args.self.now.cut.now) = simp to_z-of_z at c.floor_of.ensures.value in
    let quotient : c.floor_of.result ≡ floor (int_min (c.args.self.now.shift.lo *ℤ pos c.args.self.now.p) (c.args.self.now.shift.lo *ℤ pos c.args.self.now.q)) (pos c.args.self.now.cut.now) =
    quotient_plain ∙ ap (λ (t : ℤ). floor t (pos c.args.self.now.cut.now)) share in
    let small : IsSmall (pos (2 ^ 42)) c.lo-2.result = record { low = omega (arith, ints); high = omega (arith, ints) } in
    sum_from _ _ _ _ small c.floor_of.ensures.small c.lo-2.ensures.value quotient
