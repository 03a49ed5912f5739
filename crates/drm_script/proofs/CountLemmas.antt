-- How many lines some bytes have.
use Rattle.std.proofs.Common.{◌≡◌, ◌≢◌, ℕ, ◌+◌, ◌≤◌, Bool, true, false, cond, not, eqb, List, [], ◌∷◌, ◌++◌, length, flat_map, refl, ap, ◌∙◌, arith, append_assoc}
use Rattle.std.specs.List.{AllByRecursion, All, sum_by, join_with_byte}
use Rattle.std.proofs.lemmas.List.Sums.{sum_by-cons, sum_by-append}
use Rattle.std.proofs.lemmas.List.Elements.{All-head, All-tail}
use Rattle.drm_script.specs.Words.{is_open, lines_in}
use Rattle.drm_script.proofs.TestLemmas.{false_from_ne}
use Rattle.drm_script.proofs.RowLemmas.{IsRow, text_by, joined_lacks}

abbrev pub one_if : Bool → ℕ
one_if b = cond b 1 0

abbrev feed : ℕ → ℕ
feed b = one_if (eqb b 10)

-- behind a line feed it is left open as what stands there is
pub open_behind : (xs more : List ℕ) → is_open (xs ++ 10 ∷ more) ≡ is_open more
open_behind [] [] = refl
open_behind [] (c ∷ more) = refl
open_behind (x ∷ []) more = open_behind [] more
open_behind (x ∷ y ∷ xs) more = open_behind (y ∷ xs) more

pub open_push : (xs : List ℕ) (b : ℕ) → is_open (xs ++ b ∷ []) ≡ not (eqb b 10)
open_push [] b = refl
open_push (x ∷ []) b = refl
open_push (x ∷ y ∷ xs) b = open_push (y ∷ xs) b

no_feeds : (line : List ℕ) → AllByRecursion (λ (b : ℕ). b ≢ 10) line → sum_by feed line ≡ 0
no_feeds [] h = refl
no_feeds (b ∷ bs) h = omega (arith, sum_by-cons feed b bs, ap one_if (false_from_ne b 10 h.0), no_feeds bs h.1)

pub one_line : (line more : List ℕ) → AllByRecursion (λ (b : ℕ). b ≢ 10) line → lines_in (line ++ 10 ∷ more) ≡ 1 + lines_in more
one_line line more lacks =
    omega (arith, sum_by-append feed line (10 ∷ more), no_feeds line lacks, sum_by-cons feed 10 more, ap one_if (open_behind line more))

pub some_lines : (bytes : List ℕ) → ¬ (length bytes ≡ 0) → 1 ≤ lines_in bytes
some_lines [] some = absurd (some refl)
some_lines (b ∷ []) some = by_feed (eqb b 10) where
  by_feed : (is : Bool) → 1 ≤ 0 + one_if is + one_if (not is)
  by_feed true = omega arith
  by_feed false = omega arith
some_lines (b ∷ c ∷ bs) some = omega (arith, sum_by-cons feed b (c ∷ bs), some_lines (c ∷ bs) (λ e. omega (arith, e)))

-- each text of a line is one line
pub lines_of_texts : {X : Type 0} (words_of : X → List (List ℕ)) (Fits : X → Type 0) → ((x : X) → Fits x → IsRow (words_of x)) → (xs : List X) (rest : List ℕ) → All Fits xs → lines_in (flat_map (text_by words_of) xs ++ rest) ≡ length xs + lines_in rest
lines_of_texts words_of Fits row [] rest fits = omega arith
lines_of_texts words_of Fits row (x ∷ xs) rest fits =
    let line = join_with_byte 32 (words_of x) in
    let text : (text_by words_of x ++ flat_map (text_by words_of) xs) ++ rest ≡ line ++ 10 ∷ (flat_map (text_by words_of) xs ++ rest) =
    append_assoc (text_by words_of x) (flat_map (text_by words_of) xs) rest ∙ append_assoc line (10 ∷ []) (flat_map (text_by words_of) xs ++ rest) in
    omega (arith, ap lines_in text, one_line line (flat_map (text_by words_of) xs ++ rest) (joined_lacks (words_of x) (row x (All-head Fits x xs fits))), lines_of_texts words_of Fits row xs rest (All-tail Fits x xs fits))
