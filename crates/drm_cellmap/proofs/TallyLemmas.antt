-- How a tally goes on, and that it is one number.
use Rattle.std.proofs.Common.{◌≡◌, ℕ, zero, suc, ◌+◌, ◌<◌, ◌≤◌, ◌↔◌, List, [], ◌∷◌, ◌++◌, length, take, get_or, inl, inr, refl, arith, ap, ◌∙◌, sym, subst, add-one, zero-add}
use Rattle.std.proofs.lemmas.List.{take_more}
use Rattle.std.specs.List.{range_with_len}
use Rattle.drm_num.proofs.Lists.{range_push}
use Rattle.drm_cellmap.specs.Tally.{IsTally}

-- one more element that has P
pub tally_push_has : {X : Type 0} (P : X → Type 0) (xs : List X) (x : X) (k : ℕ) → IsTally P xs k → P x → IsTally P (xs ++ x ∷ []) (k + 1)
tally_push_has P [] x k empty has = inl (has, (k, refl, empty))
tally_push_has P (y ∷ xs) x k (inl (here, (j, is, rest))) has = inl (here, (j + 1, ap (λ n. n + 1) is, tally_push_has P xs x j rest has))
tally_push_has P (y ∷ xs) x k (inr (not_here, rest)) has = inr (not_here, tally_push_has P xs x k rest has)

-- one more element that lacks P
pub tally_push_lacks : {X : Type 0} (P : X → Type 0) (xs : List X) (x : X) (k : ℕ) → IsTally P xs k → (P x → ⊥) → IsTally P (xs ++ x ∷ []) k
tally_push_lacks P [] x k empty lacks = inr (lacks, empty)
tally_push_lacks P (y ∷ xs) x k (inl (here, (j, is, rest))) lacks = inl (here, (j, is, tally_push_lacks P xs x j rest lacks))
tally_push_lacks P (y ∷ xs) x k (inr (not_here, rest)) lacks = inr (not_here, tally_push_lacks P xs x k rest lacks)

-- a list has one tally
pub tally_unique : {X : Type 0} (P : X → Type 0) (xs : List X) (j k : ℕ) → IsTally P xs j → IsTally P xs k → j ≡ k
tally_unique P [] j k a b = a ∙ sym b
tally_unique P (x ∷ xs) j k (inl (here, (i, is, rest))) (inl (here2, (i2, is2, rest2))) =
    is ∙ ap (λ n. n + 1) (tally_unique P xs i i2 rest rest2) ∙ sym is2
tally_unique P (x ∷ xs) j k (inl (here, more)) (inr (not_here, rest)) = absurd (not_here here)
tally_unique P (x ∷ xs) j k (inr (not_here, rest)) (inl (here, more)) = absurd (not_here here)
tally_unique P (x ∷ xs) j k (inr (not_here, rest)) (inr (not_here2, rest2)) = tally_unique P xs j k rest rest2

-- a property that holds of the same elements has the same tally
pub tally_same : {X : Type 0} (P Q : X → Type 0) → ((x : X) → P x → Q x) → ((x : X) → Q x → P x) → (xs : List X) (k : ℕ) → IsTally P xs k → IsTally Q xs k
tally_same P Q there back [] k empty = empty
tally_same P Q there back (x ∷ xs) k (inl (here, (j, is, rest))) = inl (there x here, (j, is, tally_same P Q there back xs j rest))
tally_same P Q there back (x ∷ xs) k (inr (not_here, rest)) = inr ((λ q. not_here (back x q)), tally_same P Q there back xs k rest)

-- one more number at the end of a range from 0
range_more : (n : ℕ) → range_with_len 0 (n + 1) ≡ range_with_len 0 n ++ n ∷ []
range_more n = ap (λ m. range_with_len 0 m) (add-one n) ∙ range_push 0 n ∙ ap (λ x. range_with_len 0 n ++ x ∷ []) (zero-add n)

-- the next number of a range from 0 has P
pub tally_range_has : (P : ℕ → Type 0) (n k : ℕ) → IsTally P (range_with_len 0 n) k → P n → IsTally P (range_with_len 0 (n + 1)) (k + 1)
tally_range_has P n k so_far has =
    subst (λ (xs : List ℕ). IsTally P xs (k + 1)) (sym (range_more n)) (tally_push_has P (range_with_len 0 n) n k so_far has)

-- the next number of a range from 0 lacks P
pub tally_range_lacks : (P : ℕ → Type 0) (n k : ℕ) → IsTally P (range_with_len 0 n) k → (P n → ⊥) → IsTally P (range_with_len 0 (n + 1)) k
tally_range_lacks P n k so_far lacks =
    subst (λ (xs : List ℕ). IsTally P xs k) (sym (range_more n)) (tally_push_lacks P (range_with_len 0 n) n k so_far lacks)

-- the next element of a list has P
pub tally_take_has : {X : Type 0} (P : X → Type 0) (xs : List X) (i : ℕ) (d : X) (k : ℕ) → i < length xs → IsTally P (take i xs) k → P (get_or xs i d) → IsTally P (take (i + 1) xs) (k + 1)
tally_take_has P xs i d k below so_far has = rw (take_more xs i d below) (tally_push_has P (take i xs) (get_or xs i d) k so_far has)

-- the next element of a list lacks P
pub tally_take_lacks : {X : Type 0} (P : X → Type 0) (xs : List X) (i : ℕ) (d : X) (k : ℕ) → i < length xs → IsTally P (take i xs) k → (P (get_or xs i d) → ⊥) → IsTally P (take (i + 1) xs) k
tally_take_lacks P xs i d k below so_far lacks = rw (take_more xs i d below) (tally_push_lacks P (take i xs) (get_or xs i d) k so_far lacks)

-- a property that holds of the same numbers of a range has the same tally there
pub tally_same_in_range : (P Q : ℕ → Type 0) (n a k : ℕ) → ((x : ℕ) → a ≤ x → x < a + n → P x ↔ Q x) → IsTally P (range_with_len a n) k → IsTally Q (range_with_len a n) k
tally_same_in_range P Q zero a k same empty = empty
tally_same_in_range P Q (suc n) a k same (inl (here, (j, is, rest))) =
    inl ((same a (omega arith) (omega arith)).0 here, (j, is, tally_same_in_range P Q n (a + 1) j (λ x least most. same x (omega arith) (omega arith)) rest))
tally_same_in_range P Q (suc n) a k same (inr (not_here, rest)) =
    inr ((λ q. not_here ((same a (omega arith) (omega arith)).1 q)), tally_same_in_range P Q n (a + 1) k (λ x least most. same x (omega arith) (omega arith)) rest)
