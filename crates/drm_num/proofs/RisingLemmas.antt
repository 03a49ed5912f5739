-- Lists whose elements may name numbers that never fall, and of which some pick the number that they name, above all
-- numbers before it: where as many are picked as there are numbers, each number is picked in its turn.
use Rattle.std.proofs.Common.{◌≡◌, ℕ, zero, suc, ◌+◌, ◌<◌, ◌≤◌, List, [], ◌∷◌, length, take, refl, ap, sym, ◌∙◌, subst, arith, Option, None, Some, IsSome, slice_get}
use Rattle.std.specs.Prelude.{All, AllPairs, filter_map}
use Rattle.std.specs.List.{range_with_len, cons_option}
use Rattle.std.proofs.lemmas.List.Elements.{All-head, All-tail}
use Rattle.drm_num.proofs.Lists.{pairs_of_first, pairs_of_rest}

-- a later element names no smaller number than an earlier one, and a greater one where it picks it
abbrev pub Rises : {X : Type 0} → (X → Option ℕ) → (X → Option ℕ) → X → X → Type 0
Rises name pick x y = (a b : ℕ) → name x ≡ Some a → name y ≡ Some b → (a ≤ b) × (IsSome (pick y) → a < b)

-- the element names no number below a, and one above it where it picks it
abbrev pub IsAbove : {X : Type 0} → (X → Option ℕ) → (X → Option ℕ) → ℕ → X → Type 0
IsAbove name pick a x = (b : ℕ) → name x ≡ Some b → (a ≤ b) × (IsSome (pick x) → a < b)

-- the element names no number above m
abbrev pub IsUpTo : {X : Type 0} → (X → Option ℕ) → ℕ → X → Type 0
IsUpTo name m x = (b : ℕ) → name x ≡ Some b → b ≤ m

-- what is picked is named
abbrev pub PicksNamed : {X : Type 0} → (X → Option ℕ) → (X → Option ℕ) → Type 0
PicksNamed {X} name pick = (x : X) (n : ℕ) → pick x ≡ Some n → name x ≡ Some n

-- an element that picks a number picks some
picks : {X : Type 0} (pick : X → Option ℕ) (x : X) (n : ℕ) → pick x ≡ Some n → IsSome (pick x)
picks pick x n is = subst (λ (o : Option ℕ). IsSome o) (sym is) refl

-- what is named by the first element, all later ones are above
later_above : {X : Type 0} (name pick : X → Option ℕ) (x : X) (xs : List X) (n : ℕ) → AllPairs (Rises name pick) (x ∷ xs) → name x ≡ Some n → All (IsAbove name pick n) xs
later_above name pick x xs n rising is k d below b is_b = pairs_of_first (Rises name pick) x xs rising k d below n b is is_b

-- no more are picked than there are numbers
pub picked_fit : {X : Type 0} (name pick : X → Option ℕ) → PicksNamed name pick → (xs : List X) (a m : ℕ) → a ≤ m → All (IsAbove name pick a) xs → All (IsUpTo name m) xs → AllPairs (Rises name pick) xs → a + length (filter_map pick xs) ≤ m
picked_fit name pick named [] a m room above within rising = omega arith
picked_fit {X} name pick named (x ∷ xs) a m room above within rising =
    go (pick x) refl (λ b room above. picked_fit name pick named xs b m room above (All-tail (IsUpTo name m) x xs within) (pairs_of_rest (Rises name pick) x xs rising))
  where
    go : (o : Option ℕ) → pick x ≡ o → ((b : ℕ) → b ≤ m → All (IsAbove name pick b) xs → b + length (filter_map pick xs) ≤ m) → a + length (cons_option o (filter_map pick xs)) ≤ m
    go None is rest = rest a room (All-tail (IsAbove name pick a) x xs above)
    go (Some n) is rest =
        let here : name x ≡ Some n = named x n is in
        let more : a < n = (All-head (IsAbove name pick a) x xs above n here).1 (picks pick x n is) in
        let up_to : n ≤ m = All-head (IsUpTo name m) x xs within n here in
        let fit : n + length (filter_map pick xs) ≤ m = rest n up_to (later_above name pick x xs n rising here) in
        omega arith

-- the picked numbers are those above a, one after the other, and each named number is how many there are so far
abbrev pub IsInTurn : {X : Type 0} → (X → Option ℕ) → (X → Option ℕ) → ℕ → List X → Type 0
IsInTurn {X} name pick a xs =
    (filter_map pick xs ≡ range_with_len (a + 1) (length (filter_map pick xs)))
    × ((i n : ℕ) (x : X) → slice_get xs i ≡ Some x → name x ≡ Some n → n ≡ a + length (filter_map pick (take (suc i) xs)))

-- where as many are picked as there are numbers, they come in turn
pub picked_in_turn : {X : Type 0} (name pick : X → Option ℕ) → PicksNamed name pick → (xs : List X) (a m : ℕ) → All (IsAbove name pick a) xs → All (IsUpTo name m) xs → AllPairs (Rises name pick) xs → a + length (filter_map pick xs) ≡ m → IsInTurn name pick a xs
picked_in_turn name pick named [] a m above within rising all = (refl, λ i n x is names. absurd cc)
picked_in_turn {X} name pick named (x ∷ xs) a m above within rising all =
    go (pick x) refl all (λ b above all. picked_in_turn name pick named xs b m above (All-tail (IsUpTo name m) x xs within) (pairs_of_rest (Rises name pick) x xs rising) all)
  where
    fit : (n : ℕ) → name x ≡ Some n → n + length (filter_map pick xs) ≤ m
    fit n is =
        picked_fit name pick named xs n m (All-head (IsUpTo name m) x xs within n is) (later_above name pick x xs n rising is)
        (All-tail (IsUpTo name m) x xs within) (pairs_of_rest (Rises name pick) x xs rising)

    first_is : (y : X) → Some x ≡ Some y → x ≡ y
    first_is y is = cc

    go : (o : Option ℕ) → pick x ≡ o → a + length (cons_option o (filter_map pick xs)) ≡ m → ((b : ℕ) → All (IsAbove name pick b) xs → b + length (filter_map pick xs) ≡ m → IsInTurn name pick b xs) → (cons_option o (filter_map pick xs) ≡ range_with_len (a + 1) (length (cons_option o (filter_map pick xs)))) × ((i n : ℕ) (y : X) → slice_get (x ∷ xs) i ≡ Some y → name y ≡ Some n → n ≡ a + length (cons_option o (filter_map pick (take i xs))))
    go None is all rest = (later.0, at)
      where
        later : IsInTurn name pick a xs
        later = rest a (All-tail (IsAbove name pick a) x xs above) all

        at : (i n : ℕ) (y : X) → slice_get (x ∷ xs) i ≡ Some y → name y ≡ Some n → n ≡ a + length (filter_map pick (take i xs))
        at zero n y is_y names =
            let here : name x ≡ Some n = ap name (first_is y is_y) ∙ names in
            let low : a ≤ n = (All-head (IsAbove name pick a) x xs above n here).0 in
            let high = fit n here in
            omega arith
        at (suc i) n y is_y names = later.1 i n y is_y names
    go (Some k) is all rest = (order, at)
      where
        next : k ≡ a + 1
        next =
            let low : a < k = (All-head (IsAbove name pick a) x xs above k (named x k is)).1 (picks pick x k is) in
            let high = fit k (named x k is) in
            omega arith

        later : IsInTurn name pick k xs
        later = rest k (later_above name pick x xs k rising (named x k is)) (omega (arith, next))

        order : k ∷ filter_map pick xs ≡ range_with_len (a + 1) (suc (length (filter_map pick xs)))
        order =
            ap (λ ys. k ∷ ys) later.0
            ∙ ap (λ (n : ℕ). n ∷ range_with_len (n + 1) (length (filter_map pick xs))) next

        same : (n : ℕ) → Some k ≡ Some n → k ≡ n
        same n is_n = cc

        at : (i n : ℕ) (y : X) → slice_get (x ∷ xs) i ≡ Some y → name y ≡ Some n → n ≡ a + suc (length (filter_map pick (take i xs)))
        at zero n y is_y names =
            let here : name x ≡ Some n = ap name (first_is y is_y) ∙ names in
            let is_n : k ≡ n = same n (sym (named x k is) ∙ here) in
            omega (arith, next)
        at (suc i) n y is_y names = let so_far = later.1 i n y is_y names in omega (arith, next)
