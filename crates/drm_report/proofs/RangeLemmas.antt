-- Numbers from 1 to n that differ, and are n many, are all of these.
use Rattle.std.proofs.Common.{◌≡◌, ℕ, zero, suc, ◌+◌, ◌<◌, ◌≤◌, inl, inr, false, eqb, List, [], ◌∷◌, ◌++◌, length, ap, sym, ◌∙◌, subst, arith}
use Rattle.std.specs.Prelude.{All, AllPairs, Contains, IsPermutation}
use Rattle.std.specs.Cmp.{unsigned_Decides}
use Rattle.std.proofs.lemmas.Cmp.{nat_eq_equiv}
use Rattle.std.specs.List.{range_with_len, IsDistinct}
use Rattle.std.specs.Set.{is_member}
use Rattle.std.proofs.lemmas.Bool.{cases_Bool, eqb-false}
use Rattle.std.proofs.lemmas.Bool.Decides.{not_from_Decides}
use Rattle.std.specs.List.{remove}
use Rattle.std.proofs.lemmas.List.Elements.{All-tail, All-contains, All-from_recursion, Contains-get_or}
use Rattle.std.proofs.lemmas.List.FromFn.{length-range_with_len, get_or-range_with_len}
use Rattle.std.proofs.lemmas.List.Sorted.{IsPermutation-refl, IsPermutation-sym, IsPermutation-trans, IsPermutation-cons, IsPermutation-to_front, IsPermutation-remove, All-permutation, length_permutation}
use Rattle.std.proofs.lemmas.Map.Keys.{IsDistinct-head, IsDistinct-tail, IsDistinct-IsPermutation}
use Rattle.std.proofs.lemmas.Map.Made.{IsDistinct-from_AllPairs, is_member-Decides, length-le_from_is_member}
use Rattle.drm_num.proofs.Lists.{range_push}

-- the number is from 1 to n
abbrev pub IsFromOneTo : ℕ → ℕ → Type 0
IsFromOneTo n x = (0 < x) × (x ≤ n)

-- each number from 1 to n stands in the range
in_range : (n x : ℕ) → IsFromOneTo n x → Contains (range_with_len 1 n) x
in_range n (suc k) (positive, within) =
    let long = length-range_with_len 1 n in
    (k, omega (arith, long), get_or-range_with_len 1 n k (suc k) (omega arith) ∙ omega arith)
in_range n zero (positive, within) = absurd (omega arith)

-- numbers up to n that differ are at most n
few : (n : ℕ) (xs : List ℕ) → All (IsFromOneTo n) xs → IsDistinct eqb xs → length xs ≤ n
few n xs within apart =
    let range = range_with_len 1 n in
    let long = length-range_with_len 1 n in
    let no_more : length xs ≤ length range =
    length-le_from_is_member nat_eq_equiv xs range apart
    (λ q is. (is_member-Decides unsigned_Decides range q).1 (in_range n q (All-contains (IsFromOneTo n) xs q within ((is_member-Decides unsigned_Decides xs q).0 is)))) in
    omega arith

-- without the greatest
all_but : (n : ℕ) (xs : List ℕ) → All (IsFromOneTo (suc n)) xs → All (λ x. ¬ (suc n ≡ x)) xs → All (IsFromOneTo n) xs
all_but n xs within apart k d below =
    let at = within k d below in
    let not = apart k d below in
    (at.0, omega (arith, at.1, not))

-- numbers from 1 to n that differ, and are n many
numbers_are_all : (n : ℕ) (xs : List ℕ) → All (IsFromOneTo n) xs → IsDistinct eqb xs → length xs ≡ n → IsPermutation xs (range_with_len 1 n)
numbers_are_all zero [] within apart long = IsPermutation-refl []
numbers_are_all zero (x ∷ xs) within apart long = absurd (omega arith)
numbers_are_all (suc n) xs within apart long =
    elim (cases_Bool (is_member eqb xs (suc n))) [
      | inl there ↦
          let place = (is_member-Decides unsigned_Decides xs (suc n)).0 there in
          let rest = remove xs place.0 in
          let front = IsPermutation-remove xs place.0 (suc n) place.1 (sym place.2) in
          let in_all = All-permutation (IsFromOneTo (suc n)) xs (suc n ∷ rest) front within in
          let differ = IsDistinct-IsPermutation eqb nat_eq_equiv.symm xs (suc n ∷ rest) front apart in
          let not_it = All-from_recursion (λ y. eqb (suc n) y ≡ false) rest (IsDistinct-head eqb (suc n) rest differ) in
          let below = all_but n rest (All-tail (IsFromOneTo (suc n)) (suc n) rest in_all) (λ k d inside. eqb-false (suc n) _ (not_it k d inside)) in
          let fewer = length_permutation xs (suc n ∷ rest) front in
          let perm = numbers_are_all n rest below (IsDistinct-tail eqb (suc n) rest differ) (omega arith) in
          let last : IsPermutation (suc n ∷ range_with_len 1 n) (range_with_len 1 n ++ suc n ∷ []) =
          IsPermutation-sym (range_with_len 1 n ++ suc n ∷ []) (suc n ∷ range_with_len 1 n) (IsPermutation-to_front (range_with_len 1 n) (suc n)) in
          let same : 1 + n ≡ suc n = omega arith in
          subst (IsPermutation xs) (sym (range_push 1 n ∙ ap (λ (k : ℕ). range_with_len 1 n ++ k ∷ []) same))
          (IsPermutation-trans xs (suc n ∷ rest) (range_with_len 1 n ++ suc n ∷ []) front
          (IsPermutation-trans (suc n ∷ rest) (suc n ∷ range_with_len 1 n) (range_with_len 1 n ++ suc n ∷ []) (IsPermutation-cons (suc n) rest (range_with_len 1 n) perm) last))
      | inr missing ↦
          let none = not_from_Decides (is_member eqb xs (suc n)) (is_member-Decides unsigned_Decides xs (suc n)) missing in
          let fits = few n xs (all_but n xs within (λ k d below is. none (subst (λ x. Contains xs x) (sym is) (Contains-get_or xs k d below)))) apart in
          absurd (omega (arith, fits))
    ]

pub all_numbers : (n : ℕ) (xs : List ℕ) → All (IsFromOneTo n) xs → AllPairs (λ x y. ¬ (x ≡ y)) xs → length xs ≡ n → IsPermutation xs (range_with_len 1 n)
all_numbers n xs within apart long = numbers_are_all n xs within (IsDistinct-from_AllPairs unsigned_Decides xs apart) long
