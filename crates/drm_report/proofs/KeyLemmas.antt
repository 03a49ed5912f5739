-- Lists whose elements have a key, which is a number: what is known of the elements of each key, and of all.
use Rattle.std.proofs.Common.{◌≡◌, ℕ, suc, ◌+◌, ◌<◌, ◌≤◌, ◌⊎◌, inl, inr, Bool, true, false, not, cond, eqb, List, [], ◌∷◌, length, slice_get, refl, ap, sym, ◌∙◌, subst, arith, Option, None, Some, add-zero}
use Rattle.std.specs.Prelude.{All, AllPairs, filter, filter_map, sum_by}
use Rattle.std.specs.List.{cons_option}
use Rattle.std.proofs.lemmas.Bool.{eq-eqb, ne_eqb, eqb-false, not-true, not_from_false, both_ways, cond-false}
use Rattle.std.proofs.lemmas.Bool.Decides.{eqb_tells}
use Rattle.std.proofs.lemmas.List.Elements.{All-nil, All-cons, All-head, All-tail, All-filter, filter_passes}
use Rattle.std.proofs.lemmas.List.Kept.{AllPairs-cons}
use Rattle.std.proofs.lemmas.List.Sums.{sum_by-cons}
use Rattle.drm_num.proofs.Lists.{pairs_of_first, pairs_of_rest}

-- the elements with the key
abbrev pub of_key : {X : Type 0} → (X → ℕ) → ℕ → List X → List X
of_key key c xs = filter (λ x. eqb (key x) c) xs

-- what an element that is kept, or is not, leaves of what is known
kept_rest : {X : Type 0} (P : List X → Type 0) (b : Bool) (x : X) (xs : List X) → (P (x ∷ xs) → P xs) → P (cond b (x ∷ xs) xs) → P xs
kept_rest P true x xs less known = less known
kept_rest P false x xs less known = known

kept_first : {X : Type 0} (P : List X → Type 0) (b : Bool) (x : X) (xs : List X) → b ≡ true → P (cond b (x ∷ xs) xs) → P (x ∷ xs)
kept_first P true x xs is known = known
kept_first P false x xs is known = absurd cc

-- what holds of the elements of each key holds of all
pub all_by_key : {X : Type 0} (key : X → ℕ) (P : ℕ → X → Type 0) (m : ℕ) (xs : List X) → All (λ x. key x < m) xs → ((c : ℕ) → c < m → All (P c) (of_key key c xs)) → All (λ x. P (key x) x) xs
all_by_key key P m [] below each = All-nil (λ x. P (key x) x)
all_by_key {X} key P m (x ∷ xs) below each =
    let low : key x < m = All-head (λ x. key x < m) x xs below in
    let mine = kept_first (All (P (key x))) (eqb (key x) (key x)) x (of_key key (key x) xs) (eq-eqb (key x) (key x) refl) (each (key x) low) in
    All-cons (λ (x : X). P (key x) x) x xs (All-head (P (key x)) x (of_key key (key x) xs) mine)
    (all_by_key key P m xs (All-tail (λ x. key x < m) x xs below)
    (λ c in_range. kept_rest (All (P c)) (eqb (key x) c) x (of_key key c xs) (All-tail (P c) x (of_key key c xs)) (each c in_range)))

-- what holds of the elements that pass a test
passing : {X : Type 0} (p : X → Bool) (P : X → Type 0) (xs : List X) → All P (filter p xs) → All (λ x. p x ≡ true → P x) xs
passing p P [] all = All-nil (λ x. p x ≡ true → P x)
passing {X} p P (x ∷ xs) all =
    All-cons (λ (x : X). p x ≡ true → P x) x xs
    (λ is. All-head P x (filter p xs) (kept_first (All P) (p x) x (filter p xs) is all))
    (passing p P xs (kept_rest (All P) (p x) x (filter p xs) (All-tail P x (filter p xs)) all))

-- a relation between the elements of each key holds between all that have one key
pub pairs_by_key : {X : Type 0} (key : X → ℕ) (R : X → X → Type 0) (m : ℕ) (xs : List X) → All (λ x. key x < m) xs → ((c : ℕ) → c < m → AllPairs R (of_key key c xs)) → AllPairs (λ x y. key x ≡ key y → R x y) xs
pairs_by_key key R m [] below each = λ i j d before inside. absurd (omega arith)
pairs_by_key {X} key R m (x ∷ xs) below each =
    let low : key x < m = All-head (λ x. key x < m) x xs below in
    let mine = kept_first (AllPairs R) (eqb (key x) (key x)) x (of_key key (key x) xs) (eq-eqb (key x) (key x) refl) (each (key x) low) in
    let with_first = passing (λ y. eqb (key y) (key x)) (R x) xs (pairs_of_first R x (of_key key (key x) xs) mine) in
    AllPairs-cons (λ (x y : X). key x ≡ key y → R x y) x xs
    (λ k d inside same. with_first k d inside (eq-eqb _ (key x) (sym same)))
    (pairs_by_key key R m xs (All-tail (λ x. key x < m) x xs below)
    (λ c in_range. kept_rest (AllPairs R) (eqb (key x) c) x (of_key key c xs) (pairs_of_rest R x (of_key key c xs)) (each c in_range)))

-- what holds of each number that is picked
pub all_picked : {X : Type 0} (pick : X → Option ℕ) (P : ℕ → Type 0) (xs : List X) → All (λ x. (n : ℕ) → pick x ≡ Some n → P n) xs → All P (filter_map pick xs)
all_picked pick P [] all = All-nil P
all_picked {X} pick P (x ∷ xs) all =
    let Q : X → Type 0 = λ x. (n : ℕ) → pick x ≡ Some n → P n in
    go (pick x) refl (all_picked pick P xs (All-tail Q x xs all))
  where
    go : (o : Option ℕ) → pick x ≡ o → All P (filter_map pick xs) → All P (cons_option o (filter_map pick xs))
    go None is rest = rest
    go (Some n) is rest = All-cons P n (filter_map pick xs) (all 0 x (omega arith) n is) rest

-- how many are picked
abbrev pub picked : {X : Type 0} → (X → Option ℕ) → List X → ℕ
picked pick xs = length (filter_map pick xs)

-- one list is as long as another and so many more, and stays so where both have one more
longer : (o : Option ℕ) (xs ys : List ℕ) (n : ℕ) → length xs ≡ length ys + n → length (cons_option o xs) ≡ length (cons_option o ys) + n
longer None xs ys n long = long
longer (Some k) xs ys n long = omega (arith, long)

-- picked among the elements that pass a test, and among the others
picked_both : {X : Type 0} (pick : X → Option ℕ) (p : X → Bool) (xs : List X) → picked pick xs ≡ picked pick (filter p xs) + picked pick (filter (λ x. not (p x)) xs)
picked_both pick p [] = refl
picked_both {X} pick p (x ∷ xs) = go (p x) (picked_both pick p xs)
  where
    others : List X
    others = filter (λ x. not (p x)) xs

    go : (b : Bool) → picked pick xs ≡ picked pick (filter p xs) + picked pick others
        → picked pick (x ∷ xs) ≡ picked pick (cond b (x ∷ filter p xs) (filter p xs)) + picked pick (cond (not b) (x ∷ others) others)
    go true rest = longer (pick x) (filter_map pick xs) (filter_map pick (filter p xs)) (picked pick others) rest
    go false rest =
        let more = longer (pick x) (filter_map pick xs) (filter_map pick others) (picked pick (filter p xs)) (omega (arith, rest)) in omega (arith, more)

-- the elements of a key stay where others are left out
of_key_among : {X : Type 0} (key : X → ℕ) (p : X → Bool) (c : ℕ) (xs : List X) → ((x : X) → key x ≡ c → p x ≡ true) → of_key key c (filter p xs) ≡ of_key key c xs
of_key_among key p c [] stay = refl
of_key_among {X} key p c (x ∷ xs) stay = go (p x) refl (eqb_tells (key x) c) (of_key_among key p c xs stay)
  where
    go : (b : Bool) → p x ≡ b → ((eqb (key x) c ≡ true) × (key x ≡ c)) ⊎ ((eqb (key x) c ≡ false) × ¬ (key x ≡ c)) → of_key key c (filter p xs) ≡ of_key key c xs
        → of_key key c (cond b (x ∷ filter p xs) (filter p xs)) ≡ cond (eqb (key x) c) (x ∷ of_key key c xs) (of_key key c xs)
    go true is which rest = ap (λ ys. cond (eqb (key x) c) (x ∷ ys) ys) rest
    go false is (inl its) rest = absurd (both_ways (p x) is (stay x its.1))
    go false is (inr other) rest = rest ∙ sym (cond-false (eqb (key x) c) (x ∷ of_key key c xs) (of_key key c xs) other.0)

-- where each told list tells as many as are picked of its key, keys counted from k on, all tell as many as are picked
pub counts_add : {X T : Type 0} (key : X → ℕ) (pick : X → Option ℕ) (tells : T → ℕ) (told : List T) (k : ℕ) (xs : List X)
    → All (λ x. (k ≤ key x) × (key x < k + length told)) xs
    → ((c : ℕ) (mine : T) → slice_get told c ≡ Some mine → picked pick (of_key key (k + c) xs) ≡ tells mine)
    → picked pick xs ≡ sum_by tells told
counts_add key pick tells [] k [] within each = refl
counts_add key pick tells [] k (x ∷ xs) within each = absurd (let first = within 0 x (omega arith) in omega (arith, first.0, first.1))
counts_add {X} key pick tells (mine ∷ told) k xs within each =
    let here : X → Bool = λ x. eqb (key x) k in
    let others = filter (λ x. not (here x)) xs in
    let above : All (λ x. (k + 1 ≤ key x) × (key x < (k + 1) + length told)) others =
    λ i d below.
    let old = All-filter (λ x. not (here x)) (λ x. (k ≤ key x) × (key x < k + suc (length told))) xs within i d below in
    let apart = eqb-false _ k (not-true _ (filter_passes (λ x. not (here x)) xs i d below)) in
    (omega (arith, old.0, apart), omega (arith, old.1)) in
    let first : picked pick (filter here xs) ≡ tells mine = subst (λ (j : ℕ). picked pick (of_key key j xs) ≡ tells mine) (add-zero k) (each 0 mine refl) in
    let rest : picked pick others ≡ sum_by tells told =
    counts_add key pick tells told (k + 1) others above
    (λ c theirs is.
    let same : of_key key ((k + 1) + c) others ≡ of_key key (k + suc c) xs =
    of_key_among key (λ x. not (here x)) ((k + 1) + c) xs (λ x at. not_from_false (here x) (ne_eqb (key x) k (λ is_k. absurd (omega arith))))
    ∙ ap (λ (j : ℕ). of_key key j xs) (omega arith) in
    ap (picked pick) same ∙ each (suc c) theirs is) in
    let both = picked_both pick here xs in
    let sums = sum_by-cons tells mine told in
    omega arith

-- what is picked of elements that never pick one number twice are numbers that differ
pub picks_differ : {X : Type 0} (pick : X → Option ℕ) (xs : List X) → AllPairs (λ x y. (m n : ℕ) → pick x ≡ Some m → pick y ≡ Some n → ¬ (m ≡ n)) xs → AllPairs (λ m n. ¬ (m ≡ n)) (filter_map pick xs)
picks_differ pick [] apart = λ i j d before inside. absurd (omega arith)
picks_differ {X} pick (x ∷ xs) apart =
    let Apart : X → X → Type 0 = λ x y. (m n : ℕ) → pick x ≡ Some m → pick y ≡ Some n → ¬ (m ≡ n) in
    go (pick x) refl (picks_differ pick xs (pairs_of_rest Apart x xs apart))
  where
    go : (o : Option ℕ) → pick x ≡ o → AllPairs (λ m n. ¬ (m ≡ n)) (filter_map pick xs) → AllPairs (λ m n. ¬ (m ≡ n)) (cons_option o (filter_map pick xs))
    go None is rest = rest
    go (Some m) is rest =
        AllPairs-cons (λ (m n : ℕ). ¬ (m ≡ n)) m (filter_map pick xs)
        (all_picked pick (λ n. ¬ (m ≡ n)) xs (λ k d below n is_n. apart 0 (suc k) d (omega arith) (omega arith) m n is is_n)) rest
