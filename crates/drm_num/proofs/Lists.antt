-- Lists, of whatever elements.
use Rattle.std.proofs.Common.{◌≡◌, ℕ, zero, suc, ◌+◌, ◌<◌, ◌⊎◌, inl, inr, List, [], ◌∷◌, ◌++◌, length, length-append, get_or, refl, ap, ◌∙◌, arith, Some, slice_get}
use Rattle.std.specs.Prelude.{All, AllPairs, zip}
use Rattle.std.specs.List.{Contains, range_with_len}
use Rattle.std.specs.List.Sorted.{IsStrictlyIncreasing}
use Rattle.std.proofs.lemmas.Bool.{cases_lt}
use Rattle.std.proofs.lemmas.Option.{slice_get-get_or}
use Rattle.std.proofs.lemmas.Grind.{common_steps}
use Rattle.std.proofs.lemmas.List.Elements.{All-nil, All-cons, All-head, All-tail, Contains-get_or}
use Rattle.std.proofs.lemmas.List.Kept.{AllPairs-cons}

-- two lists side by side, with one more element each: the pairs, and then the new pair
pub zip-push : {X Y : Type 0} (xs : List X) (ys : List Y) (x : X) (y : Y) → length ys ≡ length xs → zip (xs ++ x ∷ []) (ys ++ y ∷ []) ≡ zip xs ys ++ (x, y) ∷ []
zip-push [] [] x y same = refl
zip-push [] (b ∷ ys) x y same = absurd (omega arith)
zip-push (a ∷ xs) [] x y same = absurd (omega arith)
zip-push (a ∷ xs) (b ∷ ys) x y same = ap (λ ps. (a, b) ∷ ps) (zip-push xs ys x y (omega arith))

-- as many pairs as elements
pub length-zip : {X Y : Type 0} (xs : List X) (ys : List Y) → length ys ≡ length xs → length (zip xs ys) ≡ length xs
length-zip [] [] same = refl
length-zip [] (b ∷ ys) same = absurd (omega arith)
length-zip (a ∷ xs) [] same = absurd (omega arith)
length-zip (a ∷ xs) (b ∷ ys) same = ap suc (length-zip xs ys (omega arith))

-- a relation holds between the first element and each later one
pub pairs_of_first : {X : Type 0} (R : X → X → Type 0) (x : X) (xs : List X) → AllPairs R (x ∷ xs) → All (R x) xs
pairs_of_first R x xs pairs k d below = pairs 0 (suc k) d (omega arith) (omega arith)

-- and between the later ones
pub pairs_of_rest : {X : Type 0} (R : X → X → Type 0) (x : X) (xs : List X) → AllPairs R (x ∷ xs) → AllPairs R xs
pairs_of_rest R x xs pairs i j d before below = pairs (suc i) (suc j) d (omega arith) (omega arith)

-- what holds of each element of the first list holds of the first half of each pair
pub all_first : {X Y : Type 0} (P : X → Type 0) (xs : List X) (ys : List Y) → All P xs → All (λ p. P p.0) (zip xs ys)
all_first {X} {Y} P [] ys all = All-nil (λ (p : X × Y). P p.0)
all_first {X} {Y} P (x ∷ xs) [] all = All-nil (λ (p : X × Y). P p.0)
all_first {X} {Y} P (x ∷ xs) (y ∷ ys) all = All-cons (λ (p : X × Y). P p.0) (x, y) (zip xs ys) (All-head P x xs all) (all_first P xs ys (All-tail P x xs all))

-- what holds of the second half of each pair holds of each element of the second list
pub all_second : {X Y : Type 0} (P : Y → Type 0) (xs : List X) (ys : List Y) → length ys ≡ length xs → All (λ (p : X × Y). P p.1) (zip xs ys) → All P ys
all_second P xs [] same all = All-nil P
all_second P [] (y ∷ ys) same all = absurd (omega arith)
all_second {X} {Y} P (x ∷ xs) (y ∷ ys) same all =
    let Q : X × Y → Type 0 = λ p. P p.1 in
    All-cons P y ys (All-head Q (x, y) (zip xs ys) all) (all_second P xs ys (omega arith) (All-tail Q (x, y) (zip xs ys) all))

-- a relation between the second halves of the pairs is one between the elements of the second list
pub pairs_second : {X Y : Type 0} (R : Y → Y → Type 0) (xs : List X) (ys : List Y) → length ys ≡ length xs → AllPairs (λ (p q : X × Y). R p.1 q.1) (zip xs ys) → AllPairs R ys
pairs_second R xs [] same pairs = λ i j d before below. absurd (omega arith)
pairs_second R [] (y ∷ ys) same pairs = absurd (omega arith)
pairs_second {X} {Y} R (x ∷ xs) (y ∷ ys) same pairs =
    let S : X × Y → X × Y → Type 0 = λ p q. R p.1 q.1 in
    AllPairs-cons R y ys (all_second (R y) xs ys (omega arith) (pairs_of_first S (x, y) (zip xs ys) pairs)) (pairs_second R xs ys (omega arith) (pairs_of_rest S (x, y) (zip xs ys) pairs))

-- where an element of a list with one more comes from
pub slice_get-push_cases : {X : Type 0} (xs : List X) (y x : X) (i : ℕ) → slice_get (xs ++ y ∷ []) i ≡ Some x → ((i < length xs) × (slice_get xs i ≡ Some x)) ⊎ ((i ≡ length xs) × (y ≡ x))
slice_get-push_cases [] y x zero is = inr (refl, cc)
slice_get-push_cases [] y x (suc i) is = absurd cc
slice_get-push_cases (z ∷ xs) y x zero is = inl (omega arith, is)
slice_get-push_cases (z ∷ xs) y x (suc i) is =
    elim (slice_get-push_cases xs y x i is) [
      | inl before ↦ inl (omega arith, before.1)
      | inr last ↦ inr (omega arith, last.1)
    ]

-- a number above all others may be appended to an increasing list
pub IsStrictlyIncreasing-push : (xs : List ℕ) (x : ℕ) → IsStrictlyIncreasing xs → ((c : ℕ) → Contains xs c → c < x) → IsStrictlyIncreasing (xs ++ x ∷ [])
IsStrictlyIncreasing-push xs x increasing below = λ k h.
    elim (cases_lt (k + 1) (length xs)) [
      | inl inside ↦ (let step = increasing k inside in grind (arith, common_steps))
      | inr at_end ↦ (let grown = simp length-append at h in let last : k < length xs = omega arith in let step = below (get_or xs k 0) (Contains-get_or xs k 0 last) in grind (arith, common_steps))
    ]

-- a range with one more number
pub range_push : (a n : ℕ) → range_with_len a (suc n) ≡ range_with_len a n ++ (a + n) ∷ []
range_push a zero = ap (λ (k : ℕ). k ∷ []) (omega arith)
range_push a (suc n) =
    let last : a + 1 + n ≡ a + suc n = omega arith in
    ap (λ (ks : List ℕ). a ∷ ks) (range_push (a + 1) n ∙ ap (λ (k : ℕ). range_with_len (a + 1) n ++ k ∷ []) last)

-- an element of a list, whatever is said of the places past its end
pub any_default : {X : Type 0} (xs : List X) (i : ℕ) (d e : X) → i < length xs → get_or xs i d ≡ get_or xs i e
any_default xs i d e below =
    let by_d = slice_get-get_or xs i d below in
    let by_e = slice_get-get_or xs i e below in
    cc
