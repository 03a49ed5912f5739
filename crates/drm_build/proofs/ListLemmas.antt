-- Lists in a strict order are determined by their elements, and those of small numbers are short.
use Rattle.std.proofs.Common.{◌≡◌, ◌≢◌, ◌⊎◌, ◌↔◌, inl, inr, ℕ, zero, suc, ◌+◌, ◌<◌, ◌≤◌, List, [], ◌∷◌, length, get_or, All, refl, sym, ◌∙◌, subst, arith}
use Rattle.std.specs.Prelude.{Contains, AllPairs}
use Rattle.std.specs.List.{AllZip}
use Rattle.std.specs.List.Sorted.{IsStrictlyIncreasing}
use Rattle.std.proofs.lemmas.Option.{slice_get-get_or}
use Rattle.std.proofs.lemmas.List.Elements.{All-get_or}
use Rattle.std.proofs.lemmas.List.Kept.{AllPairs-from_increasing}

-- an element is the head or one of the tail
head_or_tail : {A : Type 0} (x : A) (xs : List A) (c : A) → Contains (x ∷ xs) c → (x ≡ c) ⊎ Contains xs c
head_or_tail x xs c (zero, below, is) = inl is
head_or_tail x xs c (suc i, below, is) = inr (i, omega arith, is)

pub in_tail : {A : Type 0} (x : A) (xs : List A) (c : A) → Contains xs c → Contains (x ∷ xs) c
in_tail x xs c (i, below, is) = (suc i, omega arith, is)

pub at_head : {A : Type 0} (x : A) (xs : List A) → Contains (x ∷ xs) x
at_head x xs = (0, omega arith, refl)

-- the head stands in the relation to each of the tail
head_before : {A : Type 0} (R : A → A → Type 0) (x : A) (xs : List A) (c : A) → AllPairs R (x ∷ xs) → Contains xs c → R x c
head_before R x xs c pairs (i, below, is) = subst (λ (y : _). R x y) is (pairs 0 (suc i) c (omega arith) (omega arith))

tail_pairs : {A : Type 0} (R : A → A → Type 0) (x : A) (xs : List A) → AllPairs R (x ∷ xs) → AllPairs R xs
tail_pairs R x xs pairs i j d less below = pairs (suc i) (suc j) d (omega arith) (omega arith)

same_heads : {A : Type 0} (R : A → A → Type 0) → ((x y : A) → R x y → R y x → ⊥) → (x y : A) (xs ys : List A) → AllPairs R (x ∷ xs) → AllPairs R (y ∷ ys) → Contains (y ∷ ys) x → Contains (x ∷ xs) y → x ≡ y
same_heads R strict x y xs ys one other has_x has_y = elim (head_or_tail y ys x has_x) [
  | inl same ↦ sym same
  | inr behind ↦ elim (head_or_tail x xs y has_y) [
    | inl same ↦ same
    | inr after ↦ absurd (strict x y (head_before R x xs y one after) (head_before R y ys x other behind))
  ]
]

-- what is in one tail is in the other
tail_within : {A : Type 0} (R : A → A → Type 0) → ((x y : A) → R x y → R y x → ⊥) → (x : A) (xs ys : List A) → AllPairs R (x ∷ xs) → (c : A) → Contains xs c → Contains (x ∷ ys) c → Contains ys c
tail_within R strict x xs ys one c has there = elim (head_or_tail x ys c there) [
  | inl same ↦
      let later = head_before R x xs c one has in
      absurd (strict x x (subst (λ (y : _). R x y) (sym same) later) (subst (λ (y : _). R x y) (sym same) later))
  | inr behind ↦ behind
]

-- two lists in a strict order with the same elements are one list
pub same_elements : {A : Type 0} (R : A → A → Type 0) → ((x y : A) → R x y → R y x → ⊥) → (xs ys : List A) → AllPairs R xs → AllPairs R ys → ((c : A) → Contains xs c ↔ Contains ys c) → xs ≡ ys
same_elements R strict [] [] one other same = refl
same_elements R strict [] (y ∷ ys) one other same = let none = (same y).1 (at_head y ys) in absurd (omega (arith, none.1))
same_elements R strict (x ∷ xs) [] one other same = let none = (same x).0 (at_head x xs) in absurd (omega (arith, none.1))
same_elements R strict (x ∷ xs) (y ∷ ys) one other same =
    let heads : x ≡ y = same_heads R strict x y xs ys one other ((same x).0 (at_head x xs)) ((same y).1 (at_head y ys)) in
    let other_x : AllPairs R (x ∷ ys) = subst (λ (z : _). AllPairs R (z ∷ ys)) (sym heads) other in
    let there : (c : _) → Contains (x ∷ xs) c ↔ Contains (x ∷ ys) c = subst (λ (z : _). (c : _) → Contains (x ∷ xs) c ↔ Contains (z ∷ ys) c) (sym heads) same in
    let rest = same_elements R strict xs ys (tail_pairs R x xs one) (tail_pairs R x ys other_x)
    (λ c. (λ has. tail_within R strict x xs ys one c has ((there c).0 (in_tail x xs c has)), λ has. tail_within R strict x ys xs other_x c has ((there c).1 (in_tail x ys c has)))) in
    rw (heads, rest) refl

-- the same of numbers that rise
pub same_numbers : (xs ys : List ℕ) → IsStrictlyIncreasing xs → IsStrictlyIncreasing ys → ((c : ℕ) → Contains xs c ↔ Contains ys c) → xs ≡ ys
same_numbers xs ys one other same = same_elements (λ x y. x < y) (λ x y less more. omega arith) xs ys (AllPairs-from_increasing xs one) (AllPairs-from_increasing ys other) same

-- a list, where one number is left out of it once
record Without (ys : List ℕ) (x : ℕ) : Type 0 where
  rest : List ℕ
  size : length ys ≡ suc (length rest)
  kept : (c : ℕ) → c ≢ x → Contains ys c → Contains rest c

without : (ys : List ℕ) (x : ℕ) → Contains ys x → Without ys x
without [] x has = absurd (omega (arith, has.1))
without (y ∷ ys) x has = elim (head_or_tail y ys x has) [
  | inl same ↦ record {
    rest = ys;
    size = omega arith;
    kept = λ c differs there. elim (head_or_tail y ys c there) [
      | inl is ↦ absurd (differs (sym is ∙ same))
      | inr behind ↦ behind
    ];
  }
  | inr behind ↦
      let less = without ys x behind in
      record {
        rest = y ∷ less.rest;
        size = let size = less.size in omega (arith, size);
        kept = λ c differs there. elim (head_or_tail y ys c there) [
          | inl is ↦ subst (λ (z : ℕ). Contains (y ∷ less.rest) z) is (at_head y less.rest)
          | inr after ↦ in_tail y less.rest c (less.kept c differs after)
        ];
      }
]

-- numbers in a strict order that are all in a list are no more than the list has
pairs_within : (xs ys : List ℕ) → AllPairs (λ x y. x < y) xs → ((c : ℕ) → Contains xs c → Contains ys c) → length xs ≤ length ys
pairs_within [] ys pairs within = omega arith
pairs_within (x ∷ xs) ys pairs within =
    let less = without ys x (within x (at_head x xs)) in
    let differs : (c : ℕ) → Contains xs c → c ≢ x = λ c has. later x c (head_before (λ x y. x < y) x xs c pairs has) in
    let shorter = pairs_within xs less.rest (tail_pairs (λ x y. x < y) x xs pairs) (λ c has. less.kept c (differs c has) (within c (in_tail x xs c has))) in
    let size = less.size in
    omega (arith, shorter, size)
  where
    later : (x c : ℕ) → x < c → c ≢ x
    later x c below same = omega (arith, below, same)

pub rising_within : (xs ys : List ℕ) → IsStrictlyIncreasing xs → ((c : ℕ) → Contains xs c → Contains ys c) → length xs ≤ length ys
rising_within xs ys rises within = pairs_within xs ys (AllPairs-from_increasing xs rises) within

-- lists of one length with the same element at each place are one list
pub same_places : {A : Type 0} (d : A) (xs ys : List A) → length xs ≡ length ys → ((k : ℕ) → k < length xs → get_or xs k d ≡ get_or ys k d) → xs ≡ ys
same_places d [] [] size same = refl
same_places d [] (y ∷ ys) size same = absurd (omega arith)
same_places d (x ∷ xs) [] size same = absurd (omega arith)
same_places d (x ∷ xs) (y ∷ ys) size same =
    let heads : x ≡ y = same 0 (omega arith) in
    let rest = same_places d xs ys (omega arith) (λ k below. same (suc k) (omega arith)) in
    rw (heads, rest) refl

-- a number that rises is at least its place
place_le : (xs : List ℕ) → IsStrictlyIncreasing xs → (k : ℕ) → k < length xs → k ≤ get_or xs k 0
place_le xs rises zero below = omega arith
place_le xs rises (suc k) below =
    let before : k ≤ get_or xs k 0 = place_le xs rises k (omega arith) in
    let step : get_or xs k 0 < get_or xs (k + 1) 0 = rises k (omega arith) in
    let next : k + 1 ≡ suc k = omega arith in
    subst (λ (m : ℕ). suc k ≤ get_or xs m 0) next (omega arith)

-- there are at most n numbers below n that rise
pub short : (xs : List ℕ) (n : ℕ) → IsStrictlyIncreasing xs → All (λ x. x < n) xs → length xs ≤ n
short [] n rises below = omega arith
short (x ∷ xs) n rises below =
    let last : length xs < length (x ∷ xs) = omega arith in
    let least = place_le (x ∷ xs) rises (length xs) last in
    let most : get_or (x ∷ xs) (length xs) 0 < n = All-get_or (λ y. y < n) (x ∷ xs) (length xs) 0 last below in
    omega arith

-- an element that is there does not depend on what stands for a missing one
pub same_place : {A : Type 0} (xs : List A) (k : ℕ) (a b : A) → k < length xs → get_or xs k a ≡ get_or xs k b
same_place xs k a b below = let one = slice_get-get_or xs k a below in let other = slice_get-get_or xs k b below in cc

-- the relation holds at each place of two lists
pub zip_at : {A B : Type 0} (R : A → B → Type 0) (xs : List A) (ys : List B) (k : ℕ) (d : A) (e : B) → AllZip R xs ys → k < length ys → R (get_or xs k d) (get_or ys k e)
zip_at R [] [] k d e all below = absurd (omega arith)
zip_at R [] (y ∷ ys) k d e all below = absurd all
zip_at R (x ∷ xs) [] k d e all below = absurd all
zip_at R (x ∷ xs) (y ∷ ys) zero d e all below = all.0
zip_at R (x ∷ xs) (y ∷ ys) (suc k) d e all below = zip_at R xs ys k d e all.1 (omega arith)
