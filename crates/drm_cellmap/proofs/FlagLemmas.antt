-- How a list of flags grows.
use Rattle.std.proofs.Common.{◌≡◌, ℕ, zero, suc, ◌+◌, ◌<◌, ◌↔◌, Bool, true, List, [], ◌∷◌, ◌++◌, length, Some, slice_get, IsTrue, inl, inr, ap, refl, arith}
use Rattle.std.proofs.lemmas.List.{length-append}
use Rattle.std.proofs.lemmas.Bool.{cases_lt}
use Rattle.drm_cellmap.specs.Snapshot.{AreFlags}

-- the flags before stay
slice_get_before : (flags : List Bool) (b : Bool) (i : ℕ) → i < length flags → slice_get (flags ++ b ∷ []) i ≡ slice_get flags i
slice_get_before [] b i below = absurd (omega arith)
slice_get_before (x ∷ xs) b zero below = refl
slice_get_before (x ∷ xs) b (suc i) below = slice_get_before xs b i (omega arith)

-- the new flag stands at the end
slice_get_end : (flags : List Bool) (b : Bool) → slice_get (flags ++ b ∷ []) (length flags) ≡ Some b
slice_get_end [] b = refl
slice_get_end (x ∷ xs) b = slice_get_end xs b

-- a flag is raised where its test is true
flag_says : (P : Type 0) (b : Bool) → (IsTrue b ↔ P) → (Some b ≡ Some true) ↔ P
flag_says P b says = (λ (e : Some b ≡ Some true). says.0 cc, λ (p : P). ap Some (says.1 p))

-- one more flag, which says whether P holds of the next number
pub flags_push : (P : ℕ → Type 0) (n : ℕ) (flags : List Bool) (b : Bool) → AreFlags n P flags → (IsTrue b ↔ P n) → AreFlags (n + 1) P (flags ++ b ∷ [])
flags_push P n flags b are says = record {
  one_each = omega (arith, length-append flags (b ∷ []), are.one_each);
  exact = λ i below. elim (cases_lt i n) [
    | inl before ↦
        let stays : slice_get (flags ++ b ∷ []) i ≡ slice_get flags i = slice_get_before flags b i (omega (arith, are.one_each)) in
        rw stays (are.exact i before)
    | inr after ↦
        let last : i ≡ length flags = omega (arith, are.one_each) in
        let at : slice_get (flags ++ b ∷ []) i ≡ Some b = rw last (slice_get_end flags b) in
        let same : i ≡ n = omega arith in
        rw at (rw same (flag_says (P n) b says))
  ];
}
