-- Where no rule is broken, each rule is kept, and the other way round.
use Rattle.std.proofs.Common.{◌≡◌, ℕ, ◌≤◌, ◌<◌, Bool, true, false, not, nat_lt, IsTrue, List, [], ◌∷◌, length, get_or, Option, Some, None, if◌then◌else◌, refl, sym, ◌∙◌, arith}
use Rattle.std.specs.List.{All, position, prefix_len}
use Rattle.std.specs.Option.{option_map}
use Rattle.std.proofs.Math.Bool.{not-not}
use Rattle.std.proofs.lemmas.Bool.{ltb-false, ltb-true}
use Rattle.std.proofs.lemmas.List.Sums.{prefix_len_passes, prefix_len_stops}
use Rattle.drm_num.specs.FirstBroken.{unless, broken_at, first_of}

-- a rule that is a test
pub kept : {F : Type 0} (test : Bool) (fault : F) → unless test fault ≡ None → test ≡ true
kept true fault none = refl
kept false fault none = cc

pub unbroken : {F : Type 0} (test : Bool) (fault : F) → test ≡ true → unless test fault ≡ None
unbroken true fault passes = refl
unbroken false fault passes = cc

-- the first of several rules
pub first_kept : {F : Type 0} (rule : Option F) (rules : List (Option F)) → first_of (rule ∷ rules) ≡ None → (rule ≡ None) × (first_of rules ≡ None)
first_kept None rules none = (refl, none)
first_kept (Some fault) rules none = cc

pub none_broken : {F : Type 0} (rule : Option F) (rules : List (Option F)) → rule ≡ None → first_of rules ≡ None → first_of (rule ∷ rules) ≡ None
none_broken None rules here there = there
none_broken (Some fault) rules here there = cc

not_so : {A : Type 0} (b : Bool) (x : A) → (if b then Some x else None) ≡ None → b ≡ false
not_so true x h = cc
not_so false x h = refl

no_place : {F : Type 0} (fault : ℕ → F) (place : Option ℕ) → option_map fault place ≡ None → place ≡ None
no_place fault None none = refl
no_place fault (Some k) none = cc

-- where no place breaks the rule, each element keeps it
pub each_keeps : {A F : Type 0} (fault : ℕ → F) (keeps : A → Bool) (xs : List A) → broken_at fault keeps xs ≡ None → All (λ x. IsTrue (keeps x)) xs
each_keeps fault keeps xs none k d below =
    let nowhere : position (λ x. not (keeps x)) xs ≡ None = no_place fault (position (λ x. not (keeps x)) xs) none in
    let full : length xs ≤ prefix_len (λ x. not (not (keeps x))) xs = ltb-false _ (length xs) (not_so _ (prefix_len (λ x. not (not (keeps x))) xs) nowhere) in
    sym (not-not (keeps (get_or xs k d))) ∙ prefix_len_passes (λ x. not (not (keeps x))) xs k d (omega arith)

-- a place that breaks the rule is not there where each element keeps it
no_break : {A : Type 0} (keeps : A → Bool) (xs : List A) (b : Bool) (d : A) → nat_lt (prefix_len (λ x. not (not (keeps x))) xs) (length xs) ≡ b → All (λ x. IsTrue (keeps x)) xs → b ≡ false
no_break keeps xs false d is each = refl
no_break keeps xs true d is each =
    let at = prefix_len (λ x. not (not (keeps x))) xs in
    let below : at < length xs = ltb-true at (length xs) is in
    let breaks : not (not (keeps (get_or xs at d))) ≡ false = prefix_len_stops (λ x. not (not (keeps x))) xs d below in
    let passes : keeps (get_or xs at d) ≡ true = each at d below in
    sym passes ∙ (sym (not-not (keeps (get_or xs at d))) ∙ breaks)

-- where each element keeps the rule, no place breaks it
pub none_breaks : {A F : Type 0} (fault : ℕ → F) (keeps : A → Bool) (xs : List A) → All (λ x. IsTrue (keeps x)) xs → broken_at fault keeps xs ≡ None
none_breaks fault keeps [] each = refl
none_breaks fault keeps (x ∷ xs) each = rw (no_break keeps (x ∷ xs) _ x refl each) refl
