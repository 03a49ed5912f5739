-- A list of coordinates breaks no rule exactly where it is a configuration of the arm.
use Rattle.std.proofs.Common.{◌≡◌, ◌↔◌, ℤ, nat_eq, List, [], ◌∷◌, length, Option, None, refl}
use Rattle.std.specs.List.{zip}
use Rattle.std.proofs.lemmas.Bool.{eqb-true, eq-eqb}
use Rattle.drm_num.proofs.RuleLemmas.{kept, unbroken, first_kept, none_broken, each_keeps, none_breaks}
use Rattle.drm_num.specs.FirstBroken.{unless, broken_at}
use Rattle.drm_arm.specs.declared.arm.Link.{Link}
use Rattle.drm_arm.specs.declared.config.ConfigFault.{ConfigFault}
use Rattle.drm_arm.specs.declared.config.ConfigFault.TheVariants.{Count, Joint}
use Rattle.drm_arm.specs.Config.{config_fault, allows, IsConfig}

-- the rule on the count, and the rule on each joint
abbrev count_rule : List Link → List ℤ → Option ConfigFault
count_rule links values = unless (nat_eq (length links) (length values)) (Count (length values))

abbrev joint_rule : List Link → List ℤ → Option ConfigFault
joint_rule links values = broken_at (λ j. Joint j) (λ pair. allows pair.0 pair.1) (zip links values)

-- coordinates that break no rule are a configuration
pub is_config : (links : List Link) (values : List ℤ) → config_fault links values ≡ None → IsConfig links values
is_config links values none =
    let count = first_kept (count_rule links values) (joint_rule links values ∷ []) none in
    let joints = first_kept (joint_rule links values) [] count.1 in
    record {
      counted = eqb-true (length links) (length values) (kept (nat_eq (length links) (length values)) (Count (length values)) count.0);
      within = each_keeps (λ j. Joint j) (λ pair. allows pair.0 pair.1) (zip links values) joints.0;
    }

-- a configuration breaks no rule
pub faultless : (links : List Link) (values : List ℤ) → IsConfig links values → config_fault links values ≡ None
faultless links values h =
    none_broken (count_rule links values) (joint_rule links values ∷ []) (unbroken (nat_eq (length links) (length values)) (Count (length values)) (eq-eqb (length links) (length values) h.counted))
    (none_broken (joint_rule links values) [] (none_breaks (λ j. Joint j) (λ pair. allows pair.0 pair.1) (zip links values) h.within) refl)

-- both ways
pub config_or_not : (links : List Link) (values : List ℤ) → (config_fault links values ≡ None) ↔ IsConfig links values
config_or_not links values = (is_config links values, faultless links values)
