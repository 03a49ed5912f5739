-- A list of links that breaks no rule is an arm.
use Rattle.std.proofs.Common.{◌≡◌, ◌↔◌, ℕ, ◌≤◌, true, ◌&&◌, nat_le, List, [], ◌∷◌, length, Option, None, arith, refl}
use Rattle.std.proofs.lemmas.Bool.Decides.{nat_tests}
use Rattle.drm_num.proofs.RuleLemmas.{kept, unbroken, first_kept, none_broken, each_keeps, none_breaks}
use Rattle.drm_num.specs.FirstBroken.{unless, broken_at}
use Rattle.drm_arm.specs.declared.arm.Link.{Link}
use Rattle.drm_arm.specs.declared.arm.ArmFault.{ArmFault}
use Rattle.drm_arm.specs.declared.arm.ArmFault.TheVariants.{Count, Length, Radius, Limits, Reach}
use Rattle.drm_arm.specs.Limits.{max_reach}
use Rattle.drm_arm.specs.Arm.{arm_fault, reach_of, has_count, has_length, has_radius, has_limits, IsArm}

-- the rules, each with those after it
abbrev reach_rules : List Link → List (Option ArmFault)
reach_rules links = unless (nat_le (reach_of links) max_reach) (Reach (reach_of links)) ∷ []

abbrev limit_rules : List Link → List (Option ArmFault)
limit_rules links = broken_at (λ k. Limits k) has_limits links ∷ reach_rules links

abbrev radius_rules : List Link → List (Option ArmFault)
radius_rules links = broken_at (λ k. Radius k) has_radius links ∷ limit_rules links

abbrev length_rules : List Link → List (Option ArmFault)
length_rules links = broken_at (λ k. Length k) has_length links ∷ radius_rules links

both : (n : ℕ) → (nat_le 1 n && nat_le n 6) ≡ true → (1 ≤ n) × (n ≤ 6)
both n h = grind (arith, nat_tests)

few_enough : (n : ℕ) → 1 ≤ n → n ≤ 6 → (nat_le 1 n && nat_le n 6) ≡ true
few_enough n some few = grind (arith, nat_tests)

near_enough : (n : ℕ) → nat_le n 4096 ≡ true → n ≤ 4096
near_enough n h = grind (arith, nat_tests)

is_near : (n : ℕ) → n ≤ 4096 → nat_le n 4096 ≡ true
is_near n h = grind (arith, nat_tests)

-- a list of links that breaks no rule is an arm
pub is_arm : (links : List Link) → arm_fault links ≡ None → IsArm links
is_arm links none =
    let count = first_kept (unless (has_count links) (Count (length links))) (length_rules links) none in
    let lengths = first_kept (broken_at (λ k. Length k) has_length links) (radius_rules links) count.1 in
    let radii = first_kept (broken_at (λ k. Radius k) has_radius links) (limit_rules links) lengths.1 in
    let limits = first_kept (broken_at (λ k. Limits k) has_limits links) (reach_rules links) radii.1 in
    let reach = first_kept (unless (nat_le (reach_of links) max_reach) (Reach (reach_of links))) [] limits.1 in
    let counted = both (length links) (kept (has_count links) (Count (length links)) count.0) in
    record {
      some = counted.0;
      few = counted.1;
      lengths = each_keeps (λ k. Length k) has_length links lengths.0;
      radii = each_keeps (λ k. Radius k) has_radius links radii.0;
      limits = each_keeps (λ k. Limits k) has_limits links limits.0;
      reach = near_enough (reach_of links) (kept (nat_le (reach_of links) max_reach) (Reach (reach_of links)) reach.0);
    }

-- an arm breaks no rule
pub faultless : (links : List Link) → IsArm links → arm_fault links ≡ None
faultless links h =
    none_broken (unless (has_count links) (Count (length links))) (length_rules links) (unbroken (has_count links) (Count (length links)) (few_enough (length links) h.some h.few))
    (none_broken (broken_at (λ k. Length k) has_length links) (radius_rules links) (none_breaks (λ k. Length k) has_length links h.lengths)
    (none_broken (broken_at (λ k. Radius k) has_radius links) (limit_rules links) (none_breaks (λ k. Radius k) has_radius links h.radii)
    (none_broken (broken_at (λ k. Limits k) has_limits links) (reach_rules links) (none_breaks (λ k. Limits k) has_limits links h.limits)
    (none_broken (unless (nat_le (reach_of links) max_reach) (Reach (reach_of links))) [] (unbroken (nat_le (reach_of links) max_reach) (Reach (reach_of links)) (is_near (reach_of links) h.reach)) refl))))

-- both ways
pub arm_or_not : (links : List Link) → (arm_fault links ≡ None) ↔ IsArm links
arm_or_not links = (is_arm links, faultless links)
