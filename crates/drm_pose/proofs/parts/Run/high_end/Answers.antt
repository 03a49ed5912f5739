-- The end is that of the base and the rounded share of the displacement.
use Rattle.std.proofs.Common.{rules, ◌≡◌, ℤ, pos, ◌^◌, ◌*ℤ◌, ap, ◌∙◌, arith, FitsSigned, w64, to_z-of_z}
use Rattle.std.proofs.lemmas.Int.{ints}
use Rattle.std.specs.Int.{int_max}
use Rattle.drm_num.specs.Quotient.{ceiling}
use Rattle.drm_num.specs.Small.{IsSmall}
use Rattle.drm_pose.proofs.PieceLemmas.{sum_from}
use Rattle.drm_pose.proofs.parts.Run.high_end.Goals as goal

pub returns : goal.returns
returns c =
    let end_fits : FitsSigned w64 c.hi.result = search rules in
    let share_fits : FitsSigned w64 c.greatest_share-greatest.result = search rules in
    let share_plain : c.greatest_share-greatest.result ≡ int_max (c.hi.result *ℤ pos c.args.self.now.p) (c.hi.result *ℤ pos c.args.self.now.q) = simp to_z-of_z at c.greatest_share-greatest.ensures.value in
    let share : c.greatest_share-greatest.result ≡ int_max (c.args.self.now.shift.hi *ℤ pos c.args.self.now.p) (c.args.self.now.shift.hi *ℤ pos c.args.self.now.q) =
    share_plain ∙ ap (λ (t : ℤ). int_max (t *ℤ pos c.args.self.now.p) (t *ℤ pos c.args.self.now.q)) c.hi.ensures.value in
    let quotient_plain : c.ceiling_of.result ≡ ceiling c.greatest_share-greatest.result (pos c.args.self.now.cut.now) = simp to_z-of_z at c.ceiling_of.ensures.value in
    let quotient : c.ceiling_of.result ≡ ceiling (int_max (c.args.self.now.shift.hi *ℤ pos c.args.self.now.p) (c.args.self.now.shift.hi *ℤ pos c.args.self.now.q)) (pos c.args.self.now.cut.now) =
    quotient_plain ∙ ap (λ (t : ℤ). ceiling t (pos c.args.self.now.cut.now)) share in
    let small : IsSmall (pos (2 ^ 42)) c.hi-2.result = record { low = omega (arith, ints); high = omega (arith, ints) } in
    sum_from _ _ _ _ small c.ceiling_of.ensures.small c.hi-2.ensures.value quotient
