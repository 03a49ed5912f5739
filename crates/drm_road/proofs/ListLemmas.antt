-- Lists, of whatever elements.
use Rattle.std.proofs.Common.{◌≡◌, ◌⊎◌, inl, inr, ℕ, zero, suc, ◌+◌, ◌-◌, ◌<◌, ◌≤◌, List, [], ◌∷◌, ◌++◌, length, map, take, replicate, set, get_or, Some, refl, ap, ◌∙◌, add-one, arith}
use Rattle.std.specs.List.{slice_get, insert, Contains}
use Rattle.std.proofs.lemmas.Option.{get_or_from_slice_get, slice_get_read, slice_get_within}
use Rattle.std.proofs.lemmas.List.{take_more}

filled : {A : Type 0} (xs : List A) (blank : A) (k j : ℕ) (x : A) → slice_get xs j ≡ Some x → set (take j xs ++ replicate (suc k) blank) j x ≡ take (suc j) xs ++ replicate k blank
filled [] blank k j x is = cc
filled (y ∷ ys) blank k zero x is = cc
filled (y ∷ ys) blank k (suc j) x is = ap (λ rest. y ∷ rest) (filled ys blank k j x is)

-- the first elements of a list with blanks behind them, and then one element more
pub padded_more : {A : Type 0} (xs : List A) (blank : A) (n j : ℕ) (x : A) → slice_get xs j ≡ Some x → j < n → set (take j xs ++ replicate (n - j) blank) j x ≡ take (j + 1) xs ++ replicate (n - (j + 1)) blank
padded_more xs blank n j x is below =
    let left : n - j ≡ suc (n - suc j) = omega arith in
    rw (left, add-one j) (filled xs blank (n - suc j) j x is)

-- a place within a list has an element
pub slice_get_there : {A : Type 0} (xs : List A) (k : ℕ) → k < length xs → (x : A) × (slice_get xs k ≡ Some x)
slice_get_there [] k below = absurd (omega arith)
slice_get_there (x ∷ xs) zero below = (x, refl)
slice_get_there (x ∷ xs) (suc k) below = slice_get_there xs k (omega arith)

-- an element of the front of a list
pub slice_get-take : {A : Type 0} (n : ℕ) (xs : List A) (p : ℕ) (e : A) → slice_get (take n xs) p ≡ Some e → (p < n) × (slice_get xs p ≡ Some e)
slice_get-take zero xs p e is = cc
slice_get-take (suc n) [] p e is = cc
slice_get-take (suc n) (x ∷ xs) zero e is = (omega arith, is)
slice_get-take (suc n) (x ∷ xs) (suc p) e is = let rest = slice_get-take n xs p e is in let below = rest.0 in (omega arith, rest.1)

pub slice_get-in_take : {A : Type 0} (n : ℕ) (xs : List A) (p : ℕ) (e : A) → p < n → slice_get xs p ≡ Some e → slice_get (take n xs) p ≡ Some e
slice_get-in_take zero xs p e below is = absurd (omega arith)
slice_get-in_take (suc n) [] p e below is = cc
slice_get-in_take (suc n) (x ∷ xs) zero e below is = is
slice_get-in_take (suc n) (x ∷ xs) (suc p) e below is = slice_get-in_take n xs p e (omega arith) is

-- an element of a list into which one was put: it stood before it, is it, or stood behind it
pub inserted : {A : Type 0} (xs : List A) (at : ℕ) (x : A) (p : ℕ) (e : A) → at ≤ length xs → slice_get (insert xs at x) p ≡ Some e
    → ((p < at) × (slice_get xs p ≡ Some e)) ⊎ (((p ≡ at) × (e ≡ x)) ⊎ ((q : ℕ) × (p ≡ suc q) × (at ≤ q) × (slice_get xs q ≡ Some e)))
inserted xs zero x zero e within is = inr (inl (refl, cc))
inserted xs zero x (suc q) e within is = inr (inr (q, refl, omega arith, is))
inserted [] (suc at) x p e within is = absurd (omega arith)
inserted (y ∷ ys) (suc at) x zero e within is = inl (omega arith, is)
inserted (y ∷ ys) (suc at) x (suc p) e within is =
    elim (inserted ys at x p e (omega arith) is) [
      | inl h ↦ let below = h.0 in inl (omega arith, h.1)
      | inr rest ↦ elim rest [
        | inl h ↦ inr (inl (ap suc h.0, h.1))
        | inr h ↦ let above = h.2 in inr (inr (suc h.0, ap suc h.1, omega arith, h.3))
      ]
    ]

pub insert_there : {A : Type 0} (xs : List A) (at : ℕ) (x : A) → at ≤ length xs → slice_get (insert xs at x) at ≡ Some x
insert_there xs zero x within = refl
insert_there [] (suc at) x within = absurd (omega arith)
insert_there (y ∷ ys) (suc at) x within = insert_there ys at x (omega arith)

pub insert_before : {A : Type 0} (xs : List A) (at : ℕ) (x : A) (p : ℕ) (e : A) → p < at → slice_get xs p ≡ Some e → slice_get (insert xs at x) p ≡ Some e
insert_before xs zero x p e below is = absurd (omega arith)
insert_before [] (suc at) x p e below is = cc
insert_before (y ∷ ys) (suc at) x zero e below is = is
insert_before (y ∷ ys) (suc at) x (suc p) e below is = insert_before ys at x p e (omega arith) is

pub insert_behind : {A : Type 0} (xs : List A) (at : ℕ) (x : A) (q : ℕ) (e : A) → at ≤ q → slice_get xs q ≡ Some e → slice_get (insert xs at x) (suc q) ≡ Some e
insert_behind xs zero x q e above is = is
insert_behind [] (suc at) x q e above is = cc
insert_behind (y ∷ ys) (suc at) x zero e above is = absurd (omega arith)
insert_behind (y ∷ ys) (suc at) x (suc q) e above is = insert_behind ys at x q e (omega arith) is

pub length-insert_within : {A : Type 0} (xs : List A) (at : ℕ) (x : A) → at ≤ length xs → length (insert xs at x) ≡ suc (length xs)
length-insert_within xs zero x within = refl
length-insert_within [] (suc at) x within = absurd (omega arith)
length-insert_within (y ∷ ys) (suc at) x within = ap suc (length-insert_within ys at x (omega arith))

-- putting an element into the front of a list, where there is room for it
pub insert-take : {A : Type 0} (xs : List A) (at m : ℕ) (x : A) → at ≤ m → at ≤ length xs → insert (take m xs) at x ≡ take (suc m) (insert xs at x)
insert-take xs zero m x room within = refl
insert-take [] (suc at) m x room within = absurd (omega arith)
insert-take (y ∷ ys) (suc at) zero x room within = absurd (omega arith)
insert-take (y ∷ ys) (suc at) (suc m) x room within = ap (λ rest. y ∷ rest) (insert-take ys at m x (omega arith) (omega arith))

-- putting an element behind a list, of which as much is kept as there was
pub take-insert_end : {A : Type 0} (xs : List A) (at : ℕ) (x : A) → at ≡ length xs → take at (insert xs at x) ≡ xs
take-insert_end [] zero x end = refl
take-insert_end [] (suc at) x end = cc
take-insert_end (y ∷ ys) zero x end = cc
take-insert_end (y ∷ ys) (suc at) x end = ap (λ rest. y ∷ rest) (take-insert_end ys at x (omega arith))

-- an element that was read with itself as what stands past the end
pub get_or_read : {A : Type 0} (xs : List A) (i : ℕ) (x d : A) → i < length xs → x ≡ get_or xs i x → get_or xs i d ≡ x
get_or_read xs i x d below is = get_or_from_slice_get xs i x d (slice_get_read xs (length xs) i x refl below is)

-- what a mapped list has
pub contains-map : {A B : Type 0} (f : A → B) (xs : List A) (y : B) → Contains (map f xs) y → (k : ℕ) × (x : A) × (slice_get xs k ≡ Some x) × (f x ≡ y)
contains-map f [] y has = let below = has.1 in absurd (omega arith)
contains-map f (x ∷ xs) y (zero, below, is) = (zero, x, refl, is)
contains-map f (x ∷ xs) y (suc k, below, is) =
    let rest = contains-map f xs y (k, omega arith, is) in
    (suc rest.0, rest.1, rest.2, rest.3)

pub map-contains : {A B : Type 0} (f : A → B) (xs : List A) (k : ℕ) (x : A) (y : B) → slice_get xs k ≡ Some x → f x ≡ y → Contains (map f xs) y
map-contains f [] k x y at is = cc
map-contains f (z ∷ xs) zero x y at is = (zero, omega arith, let same : z ≡ x = cc in ap f same ∙ is)
map-contains f (z ∷ xs) (suc k) x y at is = let rest = map-contains f xs k x y at is in let below = rest.1 in (suc rest.0, omega arith, rest.2)

-- what stands past the end does not matter within the list
pub get_or_any : {A : Type 0} (xs : List A) (i : ℕ) (d e : A) → i < length xs → get_or xs i d ≡ get_or xs i e
get_or_any [] i d e below = absurd (omega arith)
get_or_any (x ∷ xs) zero d e below = refl
get_or_any (x ∷ xs) (suc i) d e below = get_or_any xs i d e (omega arith)

-- the front of a list with one element more
pub taken_more : {A : Type 0} (xs : List A) (j : ℕ) (x : A) → slice_get xs j ≡ Some x → take (j + 1) xs ≡ take j xs ++ x ∷ []
taken_more xs j x is =
    let here = take_more xs j x (slice_get_within xs j x is) in
    here ∙ ap (λ y. take j xs ++ y ∷ []) (get_or_from_slice_get xs j x x is)
