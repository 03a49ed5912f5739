-- Lists of configurations without repetition.
use Rattle.std.proofs.Common.{◌≡◌, ◌≢◌, ◌-◌, ◌≤◌, ℤ, pos, Bool, true, false, not, ◌||◌, ◌&&◌, if◌then◌else◌, List, [], ◌∷◌, ◌++◌, length, replicate, refl, ap, ◌∙◌, arith}
use Rattle.std.specs.List.{All, AllPairs, filter, list_any}
use Rattle.std.specs.Bool.{Decides}
use Rattle.std.specs.Ordering.{int_eq}
use Rattle.std.proofs.lemmas.Bool.Decides.{Decides-int_eq}
use Rattle.std.proofs.lemmas.Bool.{not-true}
use Rattle.std.proofs.lemmas.Cmp.{lists_equiv, int_eq_equiv}
use Rattle.std.proofs.lemmas.Slice.Eq.{slice_eq-Decides}
use Rattle.std.proofs.lemmas.List.Elements.{All-nil, All-cons, All-head, All-tail, All-filter, All-weaker, filter-append, filter_passes}
use Rattle.std.proofs.lemmas.List.Kept.{AllPairs-cons, AllPairs-filter}
use Rattle.std.proofs.lemmas.List.Sums.{length-filter, count_by-le-length}
use Rattle.drm_road.specs.Draws.{is_same, unrepeated}
use Rattle.drm_road.specs.Met.{key_of}

pub same_decides : (one other : List ℤ) → Decides (is_same one other) (one ≡ other)
same_decides one other = slice_eq-Decides Decides-int_eq one other (is_same one other) refl

pub same_either_way : (one other : List ℤ) → is_same one other ≡ is_same other one
same_either_way one other = (lists_equiv int_eq_equiv).symm one other

pub same_itself : (one : List ℤ) → is_same one one ≡ true
same_itself one = (same_decides one one).1 refl

-- of two configurations one of which is said to be another
pub not_same : (one other : List ℤ) → is_same one other ≡ false → one ≢ other
not_same one other differ same = let is = (same_decides one other).1 same in cc

same_with_tail : (one other tail : List ℤ) → length one ≡ length other → is_same (one ++ tail) (other ++ tail) ≡ is_same one other
same_with_tail [] [] tail same = same_itself tail
same_with_tail [] (y ∷ ys) tail same = absurd (omega arith)
same_with_tail (x ∷ xs) [] tail same = absurd (omega arith)
same_with_tail (x ∷ xs) (y ∷ ys) tail same = ap (λ rest. int_eq x y && rest) (same_with_tail xs ys tail (omega arith))

-- keys of configurations with equally many joints are equal where the configurations are
pub same_keys : (one other : List ℤ) → length one ≡ length other → is_same (key_of one) (key_of other) ≡ is_same one other
same_keys one other same = rw same (same_with_tail one other (replicate (6 - length other) (pos 0)) same)

one_more : (test : List ℤ → Bool) (y : List ℤ) (s b : Bool) → test y ≡ not s → filter test (if b then [] else y ∷ []) ≡ (if s || b then [] else y ∷ [])
one_more test y true true is = refl
one_more test y true false is = rw is refl
one_more test y false true is = refl
one_more test y false false is = rw is refl

-- one configuration more is kept where it equals none before it
pub unrepeated_push : (xs : List (List ℤ)) (y : List ℤ) → unrepeated (xs ++ y ∷ []) ≡ unrepeated xs ++ (if list_any (is_same y) xs then [] else y ∷ [])
unfolding unrepeated
unrepeated_push [] y = refl
unrepeated_push (x ∷ xs) y =
    let test : List ℤ → Bool = λ other. not (is_same x other) in
    let last = one_more test y (is_same y x) (list_any (is_same y) xs) (ap not (same_either_way x y)) in
    ap (λ rest. x ∷ rest) (ap (filter test) (unrepeated_push xs y) ∙ (filter-append test (unrepeated xs) (if list_any (is_same y) xs then [] else y ∷ []) ∙ ap (λ rest. filter test (unrepeated xs) ++ rest) last))

-- what holds of each holds of each that is kept
pub All-unrepeated : (P : List ℤ → Type 0) (xs : List (List ℤ)) → All P xs → All P (unrepeated xs)
unfolding unrepeated
All-unrepeated P [] each = All-nil P
All-unrepeated P (x ∷ xs) each =
    All-cons P x (filter (λ other. not (is_same x other)) (unrepeated xs)) (All-head P x xs each) (All-filter (λ other. not (is_same x other)) P (unrepeated xs) (All-unrepeated P xs (All-tail P x xs each)))

-- no more are kept than there are
pub length-unrepeated : (xs : List (List ℤ)) → length (unrepeated xs) ≤ length xs
unfolding unrepeated
length-unrepeated [] = omega arith
length-unrepeated (x ∷ xs) =
    omega (arith, length-unrepeated xs, length-filter (λ (other : List ℤ). not (is_same x other)) (unrepeated xs), count_by-le-length (λ (other : List ℤ). not (is_same x other)) (unrepeated xs))

-- one at least is kept
pub some-unrepeated : (xs : List (List ℤ)) → 1 ≤ length xs → 1 ≤ length (unrepeated xs)
unfolding unrepeated
some-unrepeated [] some = absurd (omega arith)
some-unrepeated (x ∷ xs) some = omega arith

-- no two that are kept are equal
pub AllPairs-unrepeated : (xs : List (List ℤ)) → AllPairs (λ one other. one ≢ other) (unrepeated xs)
unfolding unrepeated
AllPairs-unrepeated [] = λ i j d above below. absurd (omega arith)
AllPairs-unrepeated (x ∷ xs) =
    let test : List ℤ → Bool = λ other. not (is_same x other) in
    let differ : All (λ other. x ≢ other) (filter test (unrepeated xs)) = All-weaker (λ other. test other ≡ true) (λ other. x ≢ other) (λ other passes. not_same x other (not-true (is_same x other) passes)) (filter test (unrepeated xs)) (filter_passes test (unrepeated xs)) in
    AllPairs-cons (λ one other. one ≢ other) x (filter test (unrepeated xs)) differ (AllPairs-filter (λ one other. one ≢ other) test (unrepeated xs) (AllPairs-unrepeated xs))
