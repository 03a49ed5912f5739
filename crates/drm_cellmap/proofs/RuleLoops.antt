-- What the loops over nodes, joints and cells have found so far.
use Rattle.std.proofs.Common.{◌≡◌, ℕ, zero, suc, ◌+◌, ◌<◌, ◌≤◌, ◌⊎◌, inl, inr, Bool, true, false, not, ◌&&◌, nat_eq, nat_lt, ℤ, List, length, take, get_or, slice_get, Some, None, refl, ap, arith}
use Rattle.std.specs.List.{position, position_or_len, zip, list_all}
use Rattle.std.specs.List.Sorted.{IsStrictlyIncreasing}
use Rattle.std.proofs.lemmas.Bool.{eq-eqb}
use Rattle.std.proofs.lemmas.Bool.Decides.{nat_tests}
use Rattle.std.proofs.lemmas.List.{take_all}
use Rattle.std.proofs.lemmas.List.Folds.{list_all_at, list_all_more}
use Rattle.std.proofs.lemmas.Bool.{lt-ltb, le-ltb}
use Rattle.std.proofs.lemmas.List.Sums.{position_or_len_is}
use Rattle.std.proofs.lemmas.Option.{slice_get-get_or, get_or_from_slice_get}
use Rattle.std.proofs.lemmas.Slice.Zip.{get_or-zip, length-zip}
use Rattle.drm_arm.specs.declared.arm.Link.{Link}
use Rattle.drm_arm.specs.Config.{allows}
use Rattle.drm_cellmap.specs.MapFaults.{is_config, is_sweep}
use Rattle.drm_cellmap.proofs.MapLemmas.{sweep_means, sweep_is}

-- the first element that does not keep a rule
pub first_place : {A : Type 0} (keeps : A → Bool) (xs : List A) (d : A) (i : ℕ) → i < length xs → ((k : ℕ) → k < i → keeps (get_or xs k d) ≡ true) → keeps (get_or xs i d) ≡ false → position (λ x. not (keeps x)) xs ≡ Some i
first_place keeps xs d i inside before here =
    let place : position_or_len (λ x. not (keeps x)) xs ≡ i = position_or_len_is (λ x. not (keeps x)) xs i d (omega arith)
    (λ k lower. ap not (before k lower)) (λ _. ap not here) in
    let within : nat_lt i (length xs) ≡ true = lt-ltb i (length xs) inside in
    rw (place, within) refl

-- no element does not keep the rule
pub no_place : {A : Type 0} (keeps : A → Bool) (xs : List A) (d : A) → ((k : ℕ) → k < length xs → keeps (get_or xs k d) ≡ true) → position (λ x. not (keeps x)) xs ≡ None
no_place keeps xs d each =
    let place : position_or_len (λ x. not (keeps x)) xs ≡ length xs = position_or_len_is (λ x. not (keeps x)) xs (length xs) d (omega arith)
    (λ k lower. ap not (each k lower)) (λ past. absurd (omega arith)) in
    let outside : nat_lt (length xs) (length xs) ≡ false = le-ltb (length xs) (length xs) (omega arith) in
    rw (place, outside) refl

no_truth : (b : Bool) → (b ≡ true → ⊥) → b ≡ false
no_truth true never = absurd (never refl)
no_truth false never = refl

-- the pair of a link and a coordinate
pair_at : (links : List Link) (values : List ℤ) (j : ℕ) (link : Link) (value : ℤ) → length links ≡ length values → j < length links → slice_get links j ≡ Some link → slice_get values j ≡ Some value → get_or (zip links values) j (link, value) ≡ (link, value)
pair_at links values j link value same below at there =
    let pair = get_or-zip links values j (link, value) below (omega arith) in
    rw (pair, get_or_from_slice_get links j link link at, get_or_from_slice_get values j value value there) refl

-- one more joint stands within its limits
pub more_within : (links : List Link) (values : List ℤ) (j : ℕ) (link : Link) (value : ℤ) → length links ≡ length values → j < length links → slice_get links j ≡ Some link → slice_get values j ≡ Some value → list_all (λ pair. allows pair.0 pair.1) (take j (zip links values)) ≡ true → allows link value ≡ true → list_all (λ pair. allows pair.0 pair.1) (take (j + 1) (zip links values)) ≡ true
more_within links values j link value same below at there before here =
    let size = length-zip links values in
    let inside : j < length (zip links values) = grind arith in
    rw (list_all_more (λ pair. allows pair.0 pair.1) (zip links values) j (link, value) inside, before, pair_at links values j link value same below at there) here

-- a joint is outside its limits
pub not_within : (links : List Link) (values : List ℤ) (j : ℕ) (link : Link) (value : ℤ) → length links ≡ length values → j < length links → slice_get links j ≡ Some link → slice_get values j ≡ Some value → allows link value ≡ false → list_all (λ pair. allows pair.0 pair.1) (zip links values) ≡ false
not_within links values j link value same below at there fails =
    let size = length-zip links values in
    let inside : j < length (zip links values) = grind arith in
    list_all_at (λ pair. allows pair.0 pair.1) (zip links values) j (link, value) inside (rw (pair_at links values j link value same below at there) fails)

-- all joints
pub all_within : (links : List Link) (values : List ℤ) (j : ℕ) → length links ≡ length values → length links ≤ j → list_all (λ pair. allows pair.0 pair.1) (take j (zip links values)) ≡ true → list_all (λ pair. allows pair.0 pair.1) (zip links values) ≡ true
all_within links values j same done passes =
    let size = length-zip links values in
    let long : length (zip links values) ≤ j = grind arith in
    rw (take_all j (zip links values) long) at passes

-- a node with another number of joints is no configuration, and one with as many is where each stands within its limits
pub miscounted : (links : List Link) (values : List ℤ) → (length links ≡ length values → ⊥) → is_config links values ≡ false
miscounted links values differ = fails (length links) (length values) (list_all (λ pair. allows pair.0 pair.1) (zip links values)) differ
  where
    fails : (a b : ℕ) (p : Bool) → (a ≡ b → ⊥) → (nat_eq a b && p) ≡ false
    fails a b p differ = grind (arith, nat_tests)

pub counted : (links : List Link) (values : List ℤ) → length links ≡ length values → is_config links values ≡ list_all (λ pair. allows pair.0 pair.1) (zip links values)
counted links values same = rw (eq-eqb (length links) (length values) same) refl

-- the first cells rise and are in the grid, and `least` is the least number that the next one may have
pub record RiseTo (bound : ℕ) (cells : List ℕ) (count least : ℕ) : Type 0 where
  pub rise : (k : ℕ) → k + 1 < count → get_or cells k 0 < get_or cells (k + 1) 0
  pub inside : (k : ℕ) → k < count → get_or cells k 0 < bound
  pub first : count ≡ 0 → least ≡ 0
  pub last : (k : ℕ) → suc k ≡ count → least ≡ get_or cells k 0 + 1

pub rise_none : (bound : ℕ) (cells : List ℕ) → RiseTo bound cells 0 0
rise_none bound cells = record {
  rise = λ k below. absurd (omega arith);
  inside = λ k below. absurd (omega arith);
  first = λ none. refl;
  last = λ k is. absurd (omega arith);
}

-- one more cell
pub rise_more : (bound : ℕ) (cells : List ℕ) (count least cell : ℕ) → RiseTo bound cells count least → get_or cells count 0 ≡ cell → least ≤ cell → cell < bound → RiseTo bound cells (suc count) (cell + 1)
rise_more bound cells count least cell h is above below = record {
  rise = λ k lower. elim (split k count lower) [
    | inl before ↦ h.rise k before
    | inr last ↦
        let ends = h.last k (omega arith) in
        let next : k + 1 ≡ count = omega arith in
        rw (next, is) (omega arith)
  ];
  inside = λ k lower. elim (split_at k count lower) [ inl before ↦ h.inside k before | inr last ↦ rw (last, is) below ];
  first = λ none. absurd (omega arith);
  last = λ k last. let same : k ≡ count = omega arith in rw (same, is) refl;
}
  where
    split : (k n : ℕ) → k + 1 < suc n → (k + 1 < n) ⊎ (k + 1 ≡ n)
    split k n lower = grind arith

    split_at : (k n : ℕ) → k < suc n → (k < n) ⊎ (k ≡ n)
    split_at k n lower = grind arith

-- all cells
pub rise_all : (bound : ℕ) (cells : List ℕ) (least : ℕ) → RiseTo bound cells (length cells) least → is_sweep bound cells ≡ true
rise_all bound cells least h = sweep_is bound cells (λ k below. h.rise k below) (λ k d below. rw (get_or_any cells k d 0 below) (h.inside k below))
  where
    get_or_any : (xs : List ℕ) (k d e : ℕ) → k < length xs → get_or xs k d ≡ get_or xs k e
    get_or_any xs k d e below = let one = slice_get-get_or xs k d below in let other = slice_get-get_or xs k e below in cc

-- a cell that does not rise, or is not in the grid
pub not_rising : (bound : ℕ) (cells : List ℕ) (count least cell : ℕ) → RiseTo bound cells count least → count < length cells → get_or cells count 0 ≡ cell → (cell < least) ⊎ (bound ≤ cell) → is_sweep bound cells ≡ false
not_rising bound cells count least cell h inside is breaks = no_truth (is_sweep bound cells) (λ passes.
    let sweep = sweep_means bound cells passes in
    let under = sweep.1 count 0 inside in
    elim breaks [
      | inl low ↦ fails count sweep.0 h.first h.last is low inside
      | inr high ↦ absurd (omega (arith, is))
    ])
  where
    fails : (count : ℕ) → IsStrictlyIncreasing cells → (count ≡ 0 → least ≡ 0) → ((k : ℕ) → suc k ≡ count → least ≡ get_or cells k 0 + 1) → get_or cells count 0 ≡ cell → cell < least → count < length cells → ⊥
    fails zero rise first last is low inside = let none = first refl in omega arith
    fails (suc k) rise first last is low inside =
        let ends = last k refl in
        let next : k + 1 ≡ suc k = omega arith in
        let step = rise k (omega arith) in
        let here : get_or cells (k + 1) 0 ≡ cell = rw next is in
        omega arith
