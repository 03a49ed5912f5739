-- The least cell of a kind, looked for word by word.
use Rattle.std.proofs.Common.{◌≡◌, ℕ, ◌+◌, ◌-◌, ◌*◌, ◌/◌, ◌%◌, ◌^◌, ◌<◌, ◌≤◌, ◌↔◌, inl, inr, min, bit_and, Bool, Some, None, List, length, get_or, sym, ap, subst, ◌∙◌, arith, w64, ◌≢◌, refl}
use Rattle.std.specs.Int.{bit_at, bit_not}
use Rattle.std.proofs.Math.ListN.{set}
use Rattle.std.proofs.lemmas.Bool.{cases_lt}
use Rattle.std.proofs.lemmas.List.{length-set, get_or-set_same, get_or-set_other}
use Rattle.std.proofs.lemmas.Nat.{div-add-mod', mod_below}
use Rattle.std.proofs.lemmas.Nat.Bits.{bit_at-zero, bit_at-lt, bit_at_and, bit_at_not}
use Rattle.drm_grid.specs.CellSet.{Has, HasBetween, IsCommon, IsMissing, IsLeast}
use Rattle.drm_grid.specs.Words.{bit_of, flags_of, IsPacked, IsBitCell}
use Rattle.drm_grid.proofs.WordLemmas.{Has-flags_of, bit_of-past}

-- no cell of the words before this place is of the kind
abbrev pub NoneBefore : (ℕ → Type 0) → ℕ → Type 0
NoneBefore Is place = (cell : ℕ) → cell / 64 < place → Is cell → ⊥

-- the bits of the word are those of the cells at this place that are of the kind
abbrev pub IsWordOf : (ℕ → Type 0) → ℕ → ℕ → Type 0
IsWordOf Is place word = (cell : ℕ) → cell / 64 ≡ place → (bit_at word (cell % 64) ≡ 1) ↔ Is cell

pub none_at_first : (Is : ℕ → Type 0) → NoneBefore Is 0
none_at_first Is = λ cell below is. absurd (omega arith)

-- a word that is 0 has none
pub none_more : (Is : ℕ → Type 0) (place word : ℕ) → IsWordOf Is place word → word ≡ 0 → NoneBefore Is place → NoneBefore Is (place + 1)
none_more Is place word of none before = λ cell below is. elim (cases_lt (cell / 64) place) [
  | inl earlier ↦ before cell earlier is
  | inr later ↦
      let here : cell / 64 ≡ place = omega arith in
      let one = (of cell here).1 is in
      let zero = ap (λ (w : ℕ). bit_at w (cell % 64)) none ∙ bit_at-zero (cell % 64) in
      absurd (omega arith)
]

-- the lowest cell of the first word that is not 0 is the least of all
pub least_at : (Is : ℕ → Type 0) (place word least : ℕ) → IsWordOf Is place word → NoneBefore Is place
    → IsBitCell place word least → ((cell : ℕ) → cell < least → IsBitCell place word cell → ⊥) → IsLeast Is (Some least)
least_at Is place word least of before at lower = (
  (of least at.in_word).0 at.is_set,
  λ cell below is. elim (cases_lt (cell / 64) place) [
    | inl earlier ↦ before cell earlier is
    | inr later ↦
        let there = at.in_word in
        let here : cell / 64 ≡ place = omega arith in
        lower cell below (record { in_word = here; is_set = (of cell here).1 is })
  ],
)

-- where no word has one, there is none
pub none_at_all : (Is : ℕ → Type 0) (places : ℕ) → NoneBefore Is places → ((cell : ℕ) → Is cell → cell < 64 * places) → IsLeast Is None
none_at_all Is places before within = λ cell is. let below = within cell is in before cell (omega arith) is

-- ---- which word has the bits of a kind

-- a set has the cells whose bit is 1
pub Has-packed : (words : List ℕ) (cells : ℕ) (flags : List Bool) (k : ℕ) → IsPacked words cells → flags_of words cells ≡ flags → (bit_of words k ≡ 1) ↔ Has flags k
Has-packed words cells flags k packed is = (
  (λ one. subst (λ (xs : List Bool). Has xs k) is ((Has-flags_of words cells k).1
      (elim (cases_lt k cells) [ inl below ↦ below | inr past ↦ (let zero = packed.spare k past in absurd (omega arith)) ], one))),
  (λ has. ((Has-flags_of words cells k).0 (subst (λ (xs : List Bool). Has xs k) (sym is) has)).1),
)

-- the cells of a set are below 64 times the number of its words
pub Has-within : (words : List ℕ) (cells : ℕ) (flags : List Bool) (k : ℕ) → IsPacked words cells → flags_of words cells ≡ flags → Has flags k → k < 64 * length words
Has-within words cells flags k packed is has =
    let below = ((Has-flags_of words cells k).0 (subst (λ (xs : List Bool). Has xs k) (sym is) has)).0 in
    let enough = packed.enough in omega arith

word_at : (words : List ℕ) (place k : ℕ) → k / 64 ≡ place → bit_at (get_or words place 0) (k % 64) ≡ bit_of words k
word_at words place k here = ap (λ (q : ℕ). bit_at (get_or words q 0) (k % 64)) (sym here)

both_one : (a b : ℕ) → a < 2 → b < 2 → (min a b ≡ 1) ↔ ((a ≡ 1) × (b ≡ 1))
both_one a b p q = ((λ e. (omega arith, omega arith)), (λ (x, y). omega arith))

one_not_other : (a b : ℕ) → a < 2 → b < 2 → (min a (1 - b) ≡ 1) ↔ ((a ≡ 1) × (b ≡ 1 → ⊥))
one_not_other a b p q = ((λ e. (omega arith, λ one. absurd (omega arith))), (λ (x, y). elim (cases_lt b 1) [ inl none ↦ omega arith | inr some ↦ absurd (y (omega arith)) ]))

pub IsWordOf-common : (xs ys : List ℕ) (n m : ℕ) (set other : List Bool) (place word : ℕ) → IsPacked xs n → flags_of xs n ≡ set → IsPacked ys m → flags_of ys m ≡ other
    → word ≡ bit_and (get_or xs place 0) (get_or ys place 0) → IsWordOf (IsCommon set other) place word
IsWordOf-common xs ys n m set other place word packed is packed_other is_other word_is = λ k here.
    let both = both_one (bit_of xs k) (bit_of ys k) (bit_at-lt (get_or xs (k / 64) 0) (k % 64)) (bit_at-lt (get_or ys (k / 64) 0) (k % 64)) in
    let first = Has-packed xs n set k packed is in
    let second = Has-packed ys m other k packed_other is_other in
    let bit : bit_at word (k % 64) ≡ min (bit_of xs k) (bit_of ys k) =
    ap (λ (w : ℕ). bit_at w (k % 64)) word_is ∙ bit_at_and (get_or xs place 0) (get_or ys place 0) (k % 64)
    ∙ ap (λ (b : ℕ). min b (bit_at (get_or ys place 0) (k % 64))) (word_at xs place k here) ∙ ap (λ (b : ℕ). min (bit_of xs k) b) (word_at ys place k here) in (
      (λ one. let each = both.0 (sym bit ∙ one) in (first.0 each.0, second.0 each.1)),
      (λ (a, b). bit ∙ both.1 (first.1 a, second.1 b)),
    )

pub IsWordOf-missing : (xs ys : List ℕ) (n m : ℕ) (set other : List Bool) (place word : ℕ) → IsPacked xs n → flags_of xs n ≡ set → IsPacked ys m → flags_of ys m ≡ other
    → get_or ys place 0 < 2 ^ 64 → word ≡ bit_and (get_or xs place 0) (bit_not w64 (get_or ys place 0)) → IsWordOf (IsMissing set other) place word
IsWordOf-missing xs ys n m set other place word packed is packed_other is_other fits word_is = λ k here.
    let each = one_not_other (bit_of xs k) (bit_of ys k) (bit_at-lt (get_or xs (k / 64) 0) (k % 64)) (bit_at-lt (get_or ys (k / 64) 0) (k % 64)) in
    let first = Has-packed xs n set k packed is in
    let second = Has-packed ys m other k packed_other is_other in
    let small = mod_below k 64 (omega arith) in
    let bit : bit_at word (k % 64) ≡ min (bit_of xs k) (1 - bit_of ys k) =
    ap (λ (w : ℕ). bit_at w (k % 64)) word_is ∙ bit_at_and (get_or xs place 0) (bit_not w64 (get_or ys place 0)) (k % 64)
    ∙ ap (λ (b : ℕ). min b (bit_at (bit_not w64 (get_or ys place 0)) (k % 64))) (word_at xs place k here)
    ∙ ap (λ (b : ℕ). min (bit_of xs k) b) (bit_at_not w64 (get_or ys place 0) (k % 64) fits small ∙ ap (λ (b : ℕ). 1 - b) (word_at ys place k here)) in (
      (λ one. let both = each.0 (sym bit ∙ one) in (first.0 both.0, λ has. both.1 (second.1 has))),
      (λ (a, b). bit ∙ each.1 (first.1 a, λ one. b (second.0 one))),
    )

-- ---- the cells from one on

abbrev pub HasFrom : List Bool → ℕ → ℕ → Type 0
HasFrom set first cell = (first ≤ cell) × Has set cell

pub IsWordOf-from : (xs : List ℕ) (n : ℕ) (set : List Bool) (first place whole word : ℕ) → IsPacked xs n → flags_of xs n ≡ set → whole ≡ get_or xs place 0
    → ((bit : ℕ) → bit < 64 → (bit_at word bit ≡ 1) ↔ ((first ≤ place * 64 + bit) × (bit_at whole bit ≡ 1))) → IsWordOf (HasFrom set first) place word
IsWordOf-from xs n set first place whole word packed is whole_is bits = λ k here.
    let small = mod_below k 64 (omega arith) in
    let bit = bits (k % 64) small in
    let has = Has-packed xs n set k packed is in
    let place_of : place * 64 + k % 64 ≡ k = ap (λ (q : ℕ). q * 64 + k % 64) (sym here) ∙ div-add-mod' k 64 in
    let read : bit_at whole (k % 64) ≡ bit_of xs k = ap (λ (w : ℕ). bit_at w (k % 64)) whole_is ∙ word_at xs place k here in (
      (λ one. let both = bit.0 one in (omega arith, has.0 (sym read ∙ both.1))),
      (λ (from, h). bit.1 (omega arith, read ∙ has.1 h)),
    )

-- the least cell from `first` on is the next below `end`, where it is below it
pub next_found : (set : List Bool) (first end cell : ℕ) → cell < end → IsLeast (HasFrom set first) (Some cell) → IsLeast (HasBetween set first end) (Some cell)
next_found set first end cell below least = (
  record { from_first = least.0.0; before_end = below; has = least.0.1 },
  λ k lower is. least.1 k lower (is.from_first, is.has),
)

pub next_beyond : (set : List Bool) (first end cell : ℕ) → end ≤ cell → IsLeast (HasFrom set first) (Some cell) → IsLeast (HasBetween set first end) None
next_beyond set first end cell beyond least = λ k is. let below = is.before_end in least.1 k (omega arith) (is.from_first, is.has)

pub none_between : (set : List Bool) (first end place : ℕ) → end ≤ 64 * place → NoneBefore (HasFrom set first) place → IsLeast (HasBetween set first end) None
none_between set first end place past before = λ k is. let below = is.before_end in before k (omega arith) (is.from_first, is.has)

pub none_before_first : (set : List Bool) (first : ℕ) → NoneBefore (HasFrom set first) (first / 64)
none_before_first set first = λ k below is. let from = is.0 in absurd (omega arith)

-- ---- the cells of another set are taken out, word by word

min_zero : (n : ℕ) → min 0 n ≡ 0
min_zero n = omega arith

-- the words before this one have lost the bits of the other's, and the others are as they were
pub record HasLost (xs ys now : List ℕ) (place : ℕ) : Type 0 where
  pub count : length now ≡ length xs
  pub done : (k : ℕ) → k / 64 < place → bit_of now k ≡ min (bit_of xs k) (1 - bit_of ys k)
  pub rest : (p : ℕ) → place ≤ p → get_or now p 0 ≡ get_or xs p 0

pub HasLost-none : (xs ys : List ℕ) → HasLost xs ys xs 0
HasLost-none xs ys = record { count = refl; done = λ k below. absurd (omega arith); rest = λ p from. refl }

pub HasLost-more : (xs ys now : List ℕ) (place mine other : ℕ) → place < length xs → mine ≡ get_or now place 0 → other ≡ get_or ys place 0 → other < 2 ^ 64
    → HasLost xs ys now place → HasLost xs ys (set now place (bit_and mine (bit_not w64 other))) (place + 1)
HasLost-more xs ys now place mine other there mine_is other_is fits lost =
    let word = bit_and mine (bit_not w64 other) in
    let within : place < length now = let n = lost.count in omega arith in
    record {
      count = length-set now place word ∙ lost.count;
      done = λ k below. elim (cases_lt (k / 64) place) [
        | inl before ↦
            let apart : k / 64 ≢ place = λ same. absurd (omega arith) in
            ap (λ (w : ℕ). bit_at w (k % 64)) (get_or-set_other now place (k / 64) word 0 apart) ∙ lost.done k before
        | inr from ↦
            let here : k / 64 ≡ place = omega arith in
            let small = mod_below k 64 (omega arith) in
            let first : bit_at mine (k % 64) ≡ bit_of xs k = ap (λ (w : ℕ). bit_at w (k % 64)) (mine_is ∙ lost.rest place (omega arith)) ∙ word_at xs place k here in
            let second : bit_at other (k % 64) ≡ bit_of ys k = ap (λ (w : ℕ). bit_at w (k % 64)) other_is ∙ word_at ys place k here in
            ap (λ (w : ℕ). bit_at w (k % 64)) (ap (λ (p : ℕ). get_or (set now place word) p 0) here ∙ get_or-set_same now place word 0 within)
            ∙ bit_at_and mine (bit_not w64 other) (k % 64)
            ∙ ap (λ (b : ℕ). min b (bit_at (bit_not w64 other) (k % 64))) first
            ∙ ap (λ (b : ℕ). min (bit_of xs k) b) (bit_at_not w64 other (k % 64) fits small ∙ ap (λ (b : ℕ). 1 - b) second)
      ];
      rest = λ p from. let other_place : p ≢ place = λ same. absurd (omega arith) in get_or-set_other now place p word 0 other_place ∙ lost.rest p (omega arith);
    }

-- a bit whose word is past the last one
past_words : (n place k : ℕ) → n ≤ place → place ≤ k / 64 → 64 * n ≤ k
past_words n place k end past = omega arith

-- after the last word, each bit is lost
pub HasLost-all : (xs ys now : List ℕ) (place k : ℕ) → length xs ≤ place → HasLost xs ys now place → bit_of now k ≡ min (bit_of xs k) (1 - bit_of ys k)
HasLost-all xs ys now place k end lost = elim (cases_lt (k / 64) place) [
  | inl before ↦ lost.done k before
  | inr past ↦
      let none : bit_of xs k ≡ 0 = bit_of-past xs k (past_words (length xs) place k end past) in
      ap (λ (w : ℕ). bit_at w (k % 64)) (lost.rest (k / 64) past) ∙ none ∙ sym (ap (λ (b : ℕ). min b (1 - bit_of ys k)) none ∙ min_zero (1 - bit_of ys k))
]

pub IsPacked-lost : (xs ys now : List ℕ) (n place : ℕ) → length xs ≤ place → IsPacked xs n → HasLost xs ys now place → IsPacked now n
IsPacked-lost xs ys now n place end packed lost = record {
  few = packed.few;
  enough = let e = packed.enough in let c = lost.count in omega arith;
  no_more = let e = packed.no_more in let c = lost.count in omega arith;
  spare = λ k past. let none = packed.spare k past in HasLost-all xs ys now place k end lost ∙ ap (λ (b : ℕ). min b (1 - bit_of ys k)) none ∙ min_zero (1 - bit_of ys k);
}

pub Has-lost : (xs ys now : List ℕ) (n m : ℕ) (set other : List Bool) (place cell : ℕ) → length xs ≤ place → IsPacked xs n → flags_of xs n ≡ set → IsPacked ys m → flags_of ys m ≡ other
    → HasLost xs ys now place → Has (flags_of now n) cell ↔ IsMissing set other cell
Has-lost xs ys now n m set other place cell end packed is packed_other is_other lost =
    let bit = HasLost-all xs ys now place cell end lost in
    let each = one_not_other (bit_of xs cell) (bit_of ys cell) (bit_at-lt (get_or xs (cell / 64) 0) (cell % 64)) (bit_at-lt (get_or ys (cell / 64) 0) (cell % 64)) in
    let mine = Has-packed xs n set cell packed is in
    let others = Has-packed ys m other cell packed_other is_other in
    let new = Has-packed now n (flags_of now n) cell (IsPacked-lost xs ys now n place end packed lost) refl in (
      (λ has. let both = each.0 (sym bit ∙ new.1 has) in (mine.0 both.0, λ h. both.1 (others.1 h))),
      (λ (a, b). new.0 (bit ∙ each.1 (mine.1 a, λ one. b (others.0 one)))),
    )
