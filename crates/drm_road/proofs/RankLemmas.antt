-- How many nodes come before a node: one node more, and one node against another.
use Rattle.std.proofs.Common.{◌≡◌, ◌≢◌, ◌⊎◌, inl, inr, ℕ, zero, suc, ◌+◌, ◌<◌, ◌≤◌, ℤ, Bool, true, false, not, ◌||◌, ◌&&◌, cond, nat_eq, nat_lt, List, refl, ap, sym, ◌∙◌, zero-add, add-zero, arith}
use Rattle.std.specs.List.{count_by, range_with_len}
use Rattle.std.proofs.lemmas.Bool.Decides.{nat_tests}
use Rattle.std.proofs.lemmas.List.Sums.{sum_by-cons}
use Rattle.drm_road.specs.Pairs.{gap, comes_before}

count_last : (p : ℕ → Bool) (a n : ℕ) → count_by p (range_with_len a (suc n)) ≡ count_by p (range_with_len a n) + cond (p (a + n)) 1 0
count_last p a zero = let moved : cond {A = ℕ} (p (a + 0)) 1 0 ≡ cond (p a) 1 0 = ap (λ k. cond {A = ℕ} (p k) 1 0) (add-zero a) in omega (arith, moved)
count_last p a (suc n) =
    let step : (a + 1) + n ≡ a + suc n = omega arith in
    let rest = count_last p (a + 1) n in
    let moved : cond {A = ℕ} (p ((a + 1) + n)) 1 0 ≡ cond (p (a + suc n)) 1 0 = ap (λ k. cond {A = ℕ} (p k) 1 0) step in
    let first : (m : ℕ) → count_by p (range_with_len a (suc m)) ≡ cond {A = ℕ} (p a) 1 0 + count_by p (range_with_len (a + 1) m) = λ m. sum_by-cons (λ k. cond {A = ℕ} (p k) 1 0) a (range_with_len (a + 1) m) in
    omega (arith, rest, moved, first n, first (suc n))

-- one number more
pub count_more : (p : ℕ → Bool) (n : ℕ) → count_by p (range_with_len 0 (suc n)) ≡ count_by p (range_with_len 0 n) + cond (p n) 1 0
count_more p n = count_last p 0 n ∙ ap (λ k. count_by p (range_with_len 0 n) + cond (p k) 1 0) (zero-add n)

less_counted : (b c : Bool) → (b ≡ true → c ≡ true) → cond b 1 0 ≤ cond c 1 0
less_counted false c h = omega arith
less_counted true c h = rw (h refl) (omega arith)

-- what passes one test only where it passes another is counted no more often
pub count_monotone : (p q : ℕ → Bool) (n : ℕ) → ((m : ℕ) → m < n → p m ≡ true → q m ≡ true) → count_by p (range_with_len 0 n) ≤ count_by q (range_with_len 0 n)
count_monotone p q zero each = omega arith
count_monotone p q (suc n) each =
    let rest = count_monotone p q n (λ m below. each m (omega arith)) in
    omega (arith, count_more p n, count_more q n, rest, less_counted (p n) (q n) (each n (omega arith)))

-- and less often where one number passes the other test alone
pub count_strict : (p q : ℕ → Bool) (n a : ℕ) → ((m : ℕ) → m < n → p m ≡ true → q m ≡ true) → a < n → p a ≡ false → q a ≡ true → count_by p (range_with_len 0 n) + 1 ≤ count_by q (range_with_len 0 n)
count_strict p q zero a each below fails passes = absurd (omega arith)
count_strict p q (suc n) a each below fails passes =
    let in_rest : (m : ℕ) → m < n → p m ≡ true → q m ≡ true = λ m lower. each m (omega arith) in
    let counted = count_monotone p q n in_rest in
    let last = less_counted (p n) (q n) (each n (omega arith)) in
    elim (cases n a (omega arith)) [
      | inl lower ↦ omega (arith, count_more p n, count_more q n, count_strict p q n a in_rest lower fails passes, last)
      | inr same ↦
          let fails_here : cond {A = ℕ} (p n) 1 0 ≡ 0 = rw (sym same, fails) refl in
          let passes_here : cond {A = ℕ} (q n) 1 0 ≡ 1 = rw (sym same, passes) refl in
          omega (arith, count_more p n, count_more q n, counted, fails_here, passes_here)
    ]
  where
    cases : (n a : ℕ) → a < suc n → (a < n) ⊎ (a ≡ n)
    cases n a below = grind arith

-- as seen from node i, what it says that another node comes before a node
pub before_is : (nodes : List (List ℤ)) (i k j : ℕ) → k ≢ i → ((gap nodes i k < gap nodes i j) ⊎ ((gap nodes i k ≡ gap nodes i j) × (k < j))) → comes_before nodes i k j ≡ true
before_is nodes i k j other h = before_of k i k j (gap nodes i k) (gap nodes i j) other h
  where
    before_of : (a b k j g h : ℕ) → a ≢ b → ((g < h) ⊎ ((g ≡ h) × (k < j))) → (not (nat_eq a b) && (nat_lt g h || (nat_eq g h && nat_lt k j))) ≡ true
    before_of a b k j g h other why = grind (arith, nat_tests)

pub before_means : (nodes : List (List ℤ)) (i k j : ℕ) → comes_before nodes i k j ≡ true → (k ≢ i) × ((gap nodes i k < gap nodes i j) ⊎ ((gap nodes i k ≡ gap nodes i j) × (k < j)))
before_means nodes i k j h = before_gives k i k j (gap nodes i k) (gap nodes i j) h
  where
    before_gives : (a b k j g h : ℕ) → (not (nat_eq a b) && (nat_lt g h || (nat_eq g h && nat_lt k j))) ≡ true → (a ≢ b) × ((g < h) ⊎ ((g ≡ h) × (k < j)))
    before_gives a b k j g h passes = grind (arith, nat_tests)

pub not_before : (nodes : List (List ℤ)) (i k j : ℕ) → (((k ≢ i) × ((gap nodes i k < gap nodes i j) ⊎ ((gap nodes i k ≡ gap nodes i j) × (k < j)))) → ⊥) → comes_before nodes i k j ≡ false
not_before nodes i k j never = not_true (comes_before nodes i k j) (λ passes. never (before_means nodes i k j passes))
  where
    not_true : (b : Bool) → (b ≡ true → ⊥) → b ≡ false
    not_true true never = absurd (never refl)
    not_true false never = refl
