-- Sets and their lists, place by place.
use Rattle.std.proofs.Common.{◌≡◌, ℕ, ◌+◌, ◌<◌, ◌≤◌, Bool, true, List, [], ◌∷◌, ◌++◌, length, take, map, get_or, Result, Ok, Err, IfOk, MatchResult, All, refl, ◌∙◌, ap, arith}
use Rattle.std.specs.List.{AllZip}
use Rattle.std.proofs.lemmas.List.{take_more}
use Rattle.std.proofs.lemmas.List.Elements.{All-cons, All-nil}
use Rattle.std.proofs.lemmas.List.Sums.{sum_by-append}
use Rattle.std.proofs.lemmas.Option.{slice_get_within}
use Rattle.drm_grid.specs.CellSet.{AreCells}
use Rattle.drm_cellmap.specs.Roadmap.{entries_of}
use Rattle.drm_build.specs.Sets.{HaveEntries}
use Rattle.drm_build.proofs.ListLemmas.{same_numbers, same_place, short}

-- one more pair at the end
zip_push : {A B : Type 0} (R : A → B → Type 0) (xs : List A) (ys : List B) (x : A) (y : B) → AllZip R xs ys → R x y → AllZip R (xs ++ x ∷ []) (ys ++ y ∷ [])
zip_push R [] [] x y all here = (here, tt)
zip_push R [] (z ∷ ys) x y all here = absurd all
zip_push R (z ∷ xs) [] x y all here = absurd all
zip_push R (z ∷ xs) (w ∷ ys) x y all here = (all.0, zip_push R xs ys x y all.1 here)

-- one more set is listed
pub more_lists : (sets : List (List Bool)) (lists : List (List ℕ)) (i : ℕ) (set : List Bool) (cells : List ℕ) → AllZip AreCells (take i sets) lists → i < length sets → get_or sets i [] ≡ set → AreCells set cells → AllZip AreCells (take (i + 1) sets) (lists ++ cells ∷ [])
more_lists sets lists i set cells all below is here =
    rw (take_more sets i [] below, is) (zip_push AreCells (take i sets) lists set cells all here)

-- one more set is counted
pub more_entries : (sets : List (List Bool)) (n i : ℕ) (set : List Bool) (cells : List ℕ) → HaveEntries (take i sets) n → i < length sets → get_or sets i [] ≡ set → AreCells set cells → HaveEntries (take (i + 1) sets) (n + length cells)
more_entries sets n i set cells (lists, all, is_n) below is here = (
  lists ++ cells ∷ [],
  more_lists sets lists i set cells all below is here,
  added lists cells n is_n,
)
  where
    added : (lists : List (List ℕ)) (cells : List ℕ) (n : ℕ) → n ≡ entries_of lists → n + length cells ≡ entries_of (lists ++ cells ∷ [])
    added lists cells n is = let sum = sum_by-append (λ (xs : List ℕ). length xs) lists (cells ∷ []) in omega (arith, is, sum)

-- the list of a small set is short
pub short_list : (set : List Bool) (cells : List ℕ) → length set ≤ 65536 → AreCells set cells → length cells ≤ 65536
short_list set cells small are =
    let few = short cells (length set) are.increasing (λ k d below. inside k d below) in
    omega arith
  where
    inside : (k d : ℕ) → k < length cells → get_or cells k d < length set
    inside k d below = slice_get_within set (get_or cells k d) true ((are.exact (get_or cells k d)).0 (k, below, same_place cells k (get_or cells k d) d below))

-- sets have one list each
one_listing : (sets : List (List Bool)) (xs ys : List (List ℕ)) → AllZip AreCells sets xs → AllZip AreCells sets ys → xs ≡ ys
one_listing [] [] [] one other = refl
one_listing [] (x ∷ xs) ys one other = absurd one
one_listing [] [] (y ∷ ys) one other = absurd other
one_listing (set ∷ sets) [] ys one other = absurd one
one_listing (set ∷ sets) (x ∷ xs) [] one other = absurd other
one_listing (set ∷ sets) (x ∷ xs) (y ∷ ys) one other =
    let heads : x ≡ y = same_numbers x y one.0.increasing other.0.increasing
    (λ cell. (λ has. (other.0.exact cell).1 ((one.0.exact cell).0 has), λ has. (one.0.exact cell).1 ((other.0.exact cell).0 has))) in
    let rest = one_listing sets xs ys one.1 other.1 in
    rw (heads, rest) refl

-- the lists of the sets have as many cells as were counted
pub counted : (sets : List (List Bool)) (lists : List (List ℕ)) (n : ℕ) → AllZip AreCells sets lists → HaveEntries sets n → n ≡ entries_of lists
counted sets lists n all (others, listed, is) = is ∙ ap entries_of (one_listing sets others lists listed all)

-- where each result is a value, the relation holds of the values
pub zip_oks : {A B : Type 0} (E : Type 0) (Q : A → B → Type 0) (xs : List A) (ys : List B) → AllZip (λ (x : A) (r : Result B E). IfOk r (Q x)) xs (map Ok ys) → AllZip Q xs ys
zip_oks E Q [] [] all = tt
zip_oks E Q [] (y ∷ ys) all = absurd all
zip_oks E Q (x ∷ xs) [] all = absurd all
zip_oks E Q (x ∷ xs) (y ∷ ys) all = (all.0, zip_oks E Q xs ys all.1)

-- what a result's value has of one kind it has of another
pub at_ok : {A E : Type 0} (r : Result A E) (P Q : A → Type 0) (S : E → Type 0) → MatchResult r P S → ((x : A) → P x → Q x) → IfOk r Q
at_ok (Ok x) P Q S has so = so x has
at_ok (Err e) P Q S has so = tt

-- what holds of each element that stands beside another holds of all
pub all_right : {A B : Type 0} (P : B → Type 0) (xs : List A) (ys : List B) → AllZip (λ (_ : A) (y : B). P y) xs ys → All P ys
all_right P [] [] all = All-nil P
all_right P [] (y ∷ ys) all = absurd all
all_right P (x ∷ xs) [] all = absurd all
all_right P (x ∷ xs) (y ∷ ys) all = All-cons P y ys all.0 (all_right P xs ys all.1)
