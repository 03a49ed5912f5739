-- The first number that does not keep a rule.
use Rattle.std.proofs.Common.{◌≡◌, ℕ, ◌+◌, ◌<◌, Bool, true, false, not, nat_lt, IsTrue, List, length, get_or, Option, Some, None, is_none, refl, ap, subst, ◌∙◌, arith}
use Rattle.std.specs.List.{range_with_len, position, position_or_len}
use Rattle.std.proofs.lemmas.Bool.{lt-ltb, le-ltb}
use Rattle.std.proofs.lemmas.List.FromFn.{length-range_with_len, get_or-range_with_len}
use Rattle.std.proofs.lemmas.List.Sums.{position_or_len_is}
use Rattle.drm_num.specs.FirstBroken.{broken_at}
use Rattle.drm_num.proofs.RuleLemmas.{each_keeps, none_breaks}

plain : (k : ℕ) → 0 + k ≡ k
plain k = omega arith

pub first_broken : (keeps : ℕ → Bool) (n i : ℕ) → i < n → ((k : ℕ) → k < i → keeps k ≡ true) → keeps i ≡ false → position (λ k. not (keeps k)) (range_with_len 0 n) ≡ Some i
first_broken keeps n i below before here =
    let sized = length-range_with_len 0 n in
    let at : (k : ℕ) → k < n → get_or (range_with_len 0 n) k 0 ≡ k = λ k inside. get_or-range_with_len 0 n k 0 inside ∙ plain k in
    let place : position_or_len (λ k. not (keeps k)) (range_with_len 0 n) ≡ i = position_or_len_is (λ k. not (keeps k)) (range_with_len 0 n) i 0 (omega arith)
    (λ k lower. ap (λ m. not (keeps m)) (at k (omega arith)) ∙ ap not (before k lower)) (λ _. ap (λ m. not (keeps m)) (at i below) ∙ ap not here) in
    let inside : nat_lt i (length (range_with_len 0 n)) ≡ true = lt-ltb i (length (range_with_len 0 n)) (omega arith) in
    rw (place, inside) refl

pub never_broken : (keeps : ℕ → Bool) (n : ℕ) → ((k : ℕ) → k < n → keeps k ≡ true) → position (λ k. not (keeps k)) (range_with_len 0 n) ≡ None
never_broken keeps n each =
    let sized = length-range_with_len 0 n in
    let at : (k : ℕ) → k < n → get_or (range_with_len 0 n) k 0 ≡ k = λ k inside. get_or-range_with_len 0 n k 0 inside ∙ plain k in
    let place : position_or_len (λ k. not (keeps k)) (range_with_len 0 n) ≡ n = position_or_len_is (λ k. not (keeps k)) (range_with_len 0 n) n 0 (omega arith)
    (λ k lower. ap (λ m. not (keeps m)) (at k lower) ∙ ap not (each k lower)) (λ past. absurd (omega arith)) in
    let outside : nat_lt n (length (range_with_len 0 n)) ≡ false = le-ltb n (length (range_with_len 0 n)) (omega arith) in
    rw (place, outside) refl

-- each number keeps a rule that no number breaks
pub each_number : {F : Type 0} (fault : ℕ → F) (keeps : ℕ → Bool) (n : ℕ) → broken_at fault keeps (range_with_len 0 n) ≡ None → (k : ℕ) → k < n → keeps k ≡ true
each_number fault keeps n none k below =
    let sized = length-range_with_len 0 n in
    let here = each_keeps fault keeps (range_with_len 0 n) none k 0 (omega arith) in
    subst (λ (m : ℕ). keeps m ≡ true) (get_or-range_with_len 0 n k 0 below ∙ plain k) here

-- and no number breaks a rule that each number keeps
pub no_number : {F : Type 0} (fault : ℕ → F) (keeps : ℕ → Bool) (n : ℕ) → ((k : ℕ) → k < n → keeps k ≡ true) → broken_at fault keeps (range_with_len 0 n) ≡ None
no_number fault keeps n each = none_breaks fault keeps (range_with_len 0 n) (λ k d below. all_in k d below)
  where
    all_in : (k d : ℕ) → k < length (range_with_len 0 n) → IsTrue (keeps (get_or (range_with_len 0 n) k d))
    all_in k d below =
        let sized = length-range_with_len 0 n in
        let inside : k < n = omega arith in
        let plain : 0 + k ≡ k = omega arith in
        rw (get_or-range_with_len 0 n k d inside, plain) (each k inside)

-- the same of the test that no number breaks a rule
none_is : (place : Option ℕ) → is_none place ≡ true → place ≡ None
none_is None h = refl
none_is (Some k) h = cc

place_none : {F : Type 0} (fault : ℕ → F) (keeps : ℕ → Bool) (n : ℕ) → position (λ k. not (keeps k)) (range_with_len 0 n) ≡ None → broken_at fault keeps (range_with_len 0 n) ≡ None
place_none fault keeps n none = rw none refl

pub each_of_test : (keeps : ℕ → Bool) (n : ℕ) → is_none (position (λ k. not (keeps k)) (range_with_len 0 n)) ≡ true → (k : ℕ) → k < n → keeps k ≡ true
each_of_test keeps n h = each_number (λ k. k) keeps n (place_none (λ k. k) keeps n (none_is (position (λ k. not (keeps k)) (range_with_len 0 n)) h))

pub test_of_each : (keeps : ℕ → Bool) (n : ℕ) → ((k : ℕ) → k < n → keeps k ≡ true) → is_none (position (λ k. not (keeps k)) (range_with_len 0 n)) ≡ true
test_of_each keeps n each = rw (never_broken keeps n each) refl
