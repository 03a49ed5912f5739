-- The flags of a set and the bits of its words.
use Rattle.std.proofs.Common.{◌≡◌, ◌≢◌, ℕ, ◌+◌, ◌-◌, ◌*◌, ◌/◌, ◌%◌, ◌^◌, ◌<◌, ◌≤◌, ◌↔◌, inl, inr, min, bit_and, bit_or, Bool, true, false, nat_eq, Some, List, length, get_or, replicate, refl, sym, ap, subst, ◌∙◌, arith, add-zero, eq-eqb, w64}
use Rattle.std.specs.Int.{bit_at, bit_not}
use Rattle.std.proofs.Math.ListN.{set}
use Rattle.std.proofs.lemmas.Bool.{eqb-true, cases_eq, cases_lt}
use Rattle.std.proofs.lemmas.List.{ext_get_or, length-set, length-replicate, get_or-set_same, get_or-set_other, get_or-replicate, get_or_past}
use Rattle.std.proofs.lemmas.List.FromFn.{length-map-range_with_len, get_or-map-range_with_len}
use Rattle.std.proofs.lemmas.Nat.{div-add-mod', mod_below, div_below, div-mul-add, mod-mul-add, shl_whole, shr_below, shr-shr, pow_pos}
use Rattle.std.proofs.lemmas.Nat.Bits.{bit_at-zero, bit_at_set_same, bit_at_set_other, bit_at_clear_same, bit_at_clear_other, bit_at_cat_low, bit_at_cat_high, bit_at_ones, bit_at_ones_above, ones_shr}
use Rattle.std.proofs.lemmas.Option.{slice_get_within, get_or_from_slice_get, slice_get-get_or}
use Rattle.drm_grid.specs.CellSet.{Has}
use Rattle.drm_grid.specs.Words.{bit_of, flags_of, IsPacked, IsBitCell}

-- ---- flags

pub length-flags_of : (words : List ℕ) (cells : ℕ) → length (flags_of words cells) ≡ cells
unfolding flags_of
length-flags_of words cells = length-map-range_with_len (λ cell. nat_eq (bit_of words cell) 1) 0 cells

pub get_or-flags_of : (words : List ℕ) (cells k : ℕ) (d : Bool) → k < cells → get_or (flags_of words cells) k d ≡ nat_eq (bit_of words k) 1
unfolding flags_of
get_or-flags_of words cells k d h = get_or-map-range_with_len (λ cell. nat_eq (bit_of words cell) 1) 0 cells k k d h (omega arith)

-- the set has the cells below its size whose bit is 1
pub Has-flags_of : (words : List ℕ) (cells k : ℕ) → Has (flags_of words cells) k ↔ ((k < cells) × (bit_of words k ≡ 1))
Has-flags_of words cells k = (
  (λ has.
      let within = slice_get_within (flags_of words cells) k true has in
      let below : k < cells = omega (arith, length-flags_of words cells) in
      let read = get_or_from_slice_get (flags_of words cells) k true false has in
      (below, eqb-true (bit_of words k) 1 (sym (get_or-flags_of words cells k false below) ∙ read))),
  (λ (below, is).
      let within : k < length (flags_of words cells) = omega (arith, length-flags_of words cells) in
      slice_get-get_or (flags_of words cells) k false within ∙ ap Some (get_or-flags_of words cells k false below ∙ eq-eqb (bit_of words k) 1 is)),
)

-- flags that are all the same
pub flags_of-same : (words : List ℕ) (cells : ℕ) (flag : Bool) → ((k : ℕ) → k < cells → nat_eq (bit_of words k) 1 ≡ flag) → flags_of words cells ≡ replicate cells flag
flags_of-same words cells flag each =
    ext_get_or false (flags_of words cells) (replicate cells flag) (length-flags_of words cells ∙ sym (length-replicate cells flag))
    (λ k within.
    let below : k < cells = omega (arith, length-flags_of words cells) in
    get_or-flags_of words cells k false below ∙ each k below ∙ sym (get_or-replicate cells k flag false below))

-- flags of which one is changed
pub flags_of-changed : (words new : List ℕ) (cells cell : ℕ) (flag : Bool) → cell < cells → nat_eq (bit_of new cell) 1 ≡ flag
    → ((k : ℕ) → k ≢ cell → bit_of new k ≡ bit_of words k) → flags_of new cells ≡ set (flags_of words cells) cell flag
flags_of-changed words new cells cell flag h here elsewhere =
    ext_get_or false (flags_of new cells) (set (flags_of words cells) cell flag)
    (length-flags_of new cells ∙ sym (length-set (flags_of words cells) cell flag ∙ length-flags_of words cells))
    (λ k within.
    let below : k < cells = omega (arith, length-flags_of new cells) in
    let cell_within : cell < length (flags_of words cells) = omega (arith, length-flags_of words cells) in
    get_or-flags_of new cells k false below ∙ elim (cases_eq k cell) [
      | inl same ↦ subst (λ (m : ℕ). nat_eq (bit_of new m) 1 ≡ get_or (set (flags_of words cells) cell flag) m false) (sym same)
          (here ∙ sym (get_or-set_same (flags_of words cells) cell flag false cell_within))
      | inr other ↦ ap (λ (b : ℕ). nat_eq b 1) (elsewhere k other) ∙ sym (get_or-set_other (flags_of words cells) cell k flag false other ∙ get_or-flags_of words cells k false below)
    ])

-- ---- one word is changed

-- cells with the same word and the same bit are the same
same_cell : (k cell : ℕ) → k / 64 ≡ cell / 64 → k % 64 ≡ cell % 64 → k ≡ cell
same_cell k cell words bits = sym (div-add-mod' k 64) ∙ ap (λ (q : ℕ). q * 64 + k % 64) words ∙ ap (λ (r : ℕ). cell / 64 * 64 + r) bits ∙ div-add-mod' cell 64

-- a cell of the word that was changed, and one of another word
bit_of-here : (words : List ℕ) (place word k : ℕ) → place < length words → k / 64 ≡ place → bit_of (set words place word) k ≡ bit_at word (k % 64)
bit_of-here words place word k within is =
    ap (λ (w : ℕ). bit_at w (k % 64)) (ap (λ (q : ℕ). get_or (set words place word) q 0) is ∙ get_or-set_same words place word 0 within)

bit_of-elsewhere : (words : List ℕ) (place word k : ℕ) → k / 64 ≢ place → bit_of (set words place word) k ≡ bit_of words k
bit_of-elsewhere words place word k other = ap (λ (w : ℕ). bit_at w (k % 64)) (get_or-set_other words place (k / 64) word 0 other)

-- the word of a cell is there
pub word_there : (words : List ℕ) (cells cell : ℕ) → IsPacked words cells → cell < cells → cell / 64 < length words
word_there words cells cell packed below = let enough = packed.enough in omega (arith, div_below cell 64 (length words))

-- what a change of one cell's bit leaves
pub record Changes (words new : List ℕ) (cell bit : ℕ) : Type 0 where
  pub length : length new ≡ length words
  pub here : bit_of new cell ≡ bit
  pub elsewhere : (k : ℕ) → k ≢ cell → bit_of new k ≡ bit_of words k

changes : (words : List ℕ) (cell word bit : ℕ) → cell / 64 < length words → bit_at word (cell % 64) ≡ bit
    → ((i : ℕ) → i < 64 → i ≢ cell % 64 → bit_at word i ≡ bit_at (get_or words (cell / 64) 0) i) → Changes words (set words (cell / 64) word) cell bit
changes words cell word bit there here others = record {
  length = length-set words (cell / 64) word;
  here = bit_of-here words (cell / 64) word cell there refl ∙ here;
  elsewhere = λ k other. elim (cases_eq (k / 64) (cell / 64)) [
    | inl same ↦
        bit_of-here words (cell / 64) word k there same
        ∙ others (k % 64) (mod_below k 64 (omega arith)) (λ bits. other (same_cell k cell same bits))
        ∙ ap (λ (q : ℕ). bit_at (get_or words q 0) (k % 64)) (sym same)
    | inr apart ↦ bit_of-elsewhere words (cell / 64) word k apart
  ];
}

pub changes_to_one : (words : List ℕ) (cell word : ℕ) → cell / 64 < length words → word ≡ get_or words (cell / 64) 0
    → Changes words (set words (cell / 64) (bit_or word (1 * 2 ^ (cell % 64) % 2 ^ 64))) cell 1
changes_to_one words cell word there is =
    let small = mod_below cell 64 (omega arith) in
    changes words cell (bit_or word (1 * 2 ^ (cell % 64) % 2 ^ 64)) 1 there (bit_at_set_same w64 word (cell % 64) small)
    (λ i inside other. bit_at_set_other w64 word (cell % 64) small i other ∙ ap (λ (w : ℕ). bit_at w i) is)

pub changes_to_zero : (words : List ℕ) (cell word : ℕ) → cell / 64 < length words → word ≡ get_or words (cell / 64) 0
    → Changes words (set words (cell / 64) (bit_and word (bit_not w64 (1 * 2 ^ (cell % 64) % 2 ^ 64)))) cell 0
changes_to_zero words cell word there is =
    let small = mod_below cell 64 (omega arith) in
    changes words cell (bit_and word (bit_not w64 (1 * 2 ^ (cell % 64) % 2 ^ 64))) 0 there (bit_at_clear_same w64 word (cell % 64) small)
    (λ i inside other. bit_at_clear_other w64 word (cell % 64) small i inside other ∙ ap (λ (w : ℕ). bit_at w i) is)

-- the flags stay packed
pub IsPacked-changed : (words new : List ℕ) (cells cell bit : ℕ) → IsPacked words cells → cell < cells → Changes words new cell bit → IsPacked new cells
IsPacked-changed words new cells cell bit packed below change = record {
  few = packed.few;
  enough = let e = packed.enough in let l = change.length in omega arith;
  no_more = let e = packed.no_more in let l = change.length in omega arith;
  spare = λ k past. change.elsewhere k (λ same. absurd (omega arith)) ∙ packed.spare k past;
}

pub flags_of-inserted : (words new : List ℕ) (cells cell : ℕ) → cell < cells → Changes words new cell 1 → flags_of new cells ≡ set (flags_of words cells) cell true
flags_of-inserted words new cells cell below change = flags_of-changed words new cells cell true below (eq-eqb (bit_of new cell) 1 change.here) change.elsewhere

pub flags_of-removed : (words new : List ℕ) (cells cell : ℕ) → cell < cells → Changes words new cell 0 → flags_of new cells ≡ set (flags_of words cells) cell false
flags_of-removed words new cells cell below change = flags_of-changed words new cells cell false below (ap (λ (b : ℕ). nat_eq b 1) change.here) change.elsewhere

-- ---- words that are all the same

pub bit_of-replicate : (n word k : ℕ) → k < 64 * n → bit_of (replicate n word) k ≡ bit_at word (k % 64)
bit_of-replicate n word k below =
    let there : k / 64 < n = omega (arith, div_below k 64 n) in
    ap (λ (w : ℕ). bit_at w (k % 64)) (get_or-replicate n (k / 64) word 0 there)

pub bit_of-past : (words : List ℕ) (k : ℕ) → 64 * length words ≤ k → bit_of words k ≡ 0
bit_of-past words k past =
    let beyond : length words ≤ k / 64 = omega arith in
    ap (λ (w : ℕ). bit_at w (k % 64)) (get_or_past words (k / 64) 0 beyond) ∙ bit_at-zero (k % 64)

-- ---- the lowest cell of a word

pub IsBitCell-lowest : (place word : ℕ) → 0 < word → word < 2 ^ 64 → (low : ℕ) → low < 64 → bit_at word low ≡ 1 → IsBitCell place word (place * 64 + low)
IsBitCell-lowest place word some fits low small is = record {
  in_word = div-mul-add place 64 low small;
  is_set = ap (bit_at word) (mod-mul-add place 64 low small) ∙ is;
}

pub no_lower : (place word low cell : ℕ) → ((i : ℕ) → i < low → bit_at word i ≡ 0) → cell < place * 64 + low → IsBitCell place word cell → ⊥
no_lower place word low cell none below at =
    let whole = div-add-mod' cell 64 in
    let there = at.in_word in
    let place_of : place * 64 + cell % 64 ≡ cell = ap (λ (q : ℕ). q * 64 + cell % 64) (sym there) ∙ whole in
    let lower : cell % 64 < low = omega arith in
    let zero = none (cell % 64) lower in
    let one = at.is_set in
    absurd (omega arith)

-- a cell of a word that is 0
pub no_bit_cell : (place word cell : ℕ) → word ≡ 0 → IsBitCell place word cell → ⊥
no_bit_cell place word cell none at = let one = at.is_set in let z = ap (λ (w : ℕ). bit_at w (cell % 64)) none ∙ bit_at-zero (cell % 64) in absurd (omega arith)

-- ---- the bits of a word from one on

-- the word, without the bits below one
from_bit : (word skipped bit : ℕ) → skipped < 64 → word < 2 ^ 64 → bit_at (word / 2 ^ skipped * 2 ^ skipped % 2 ^ 64) bit ≡ bit_at (word / 2 ^ skipped * 2 ^ skipped + 0) bit
from_bit word skipped bit s fits =
    let room : 64 - skipped + skipped ≡ 64 = omega arith in
    let wide : word < 2 ^ (64 - skipped + skipped) = subst (λ (w : ℕ). word < 2 ^ w) (sym room) fits in
    let whole : word / 2 ^ skipped * 2 ^ skipped % 2 ^ 64 ≡ word / 2 ^ skipped * 2 ^ skipped = shl_whole (word / 2 ^ skipped) (64 - skipped) skipped 64 (shr_below word (64 - skipped) skipped wide) (omega arith) in
    ap (λ (w : ℕ). bit_at w bit) (whole ∙ sym (add-zero (word / 2 ^ skipped * 2 ^ skipped)))

pub bits_from : (word skipped bit : ℕ) → skipped < 64 → word < 2 ^ 64
    → (bit_at (word / 2 ^ skipped * 2 ^ skipped % 2 ^ 64) bit ≡ 1) ↔ ((skipped ≤ bit) × (bit_at word bit ≡ 1))
bits_from word skipped bit s fits = elim (cases_lt bit skipped) [
  | inl below ↦
      let none : bit_at (word / 2 ^ skipped * 2 ^ skipped % 2 ^ 64) bit ≡ 0 = from_bit word skipped bit s fits ∙ bit_at_cat_low (word / 2 ^ skipped) skipped 0 bit below ∙ bit_at-zero bit in
      ((λ is. absurd (omega arith)), (λ (from, is). absurd (omega arith)))
  | inr from ↦
      let place : skipped + (bit - skipped) ≡ bit = omega arith in
      let same : bit_at (word / 2 ^ skipped * 2 ^ skipped % 2 ^ 64) bit ≡ bit_at word bit =
      from_bit word skipped bit s fits ∙ bit_at_cat_high (word / 2 ^ skipped) skipped 0 bit (pow_pos skipped) from
      ∙ ap (λ (q : ℕ). q % 2) (shr-shr word skipped (bit - skipped)) ∙ ap (bit_at word) place in
      ((λ is. (from, sym same ∙ is)), (λ (_, is). same ∙ is))
]

-- ---- the size of a set

-- a cell below the number of flags is below the size
pub below_size : (words : List ℕ) (cells : ℕ) (flags : List Bool) (cell : ℕ) → flags_of words cells ≡ flags → cell < length flags → cell < cells
below_size words cells flags cell is below = omega (arith, length-flags_of words cells, ap length is)

-- ---- the set of all cells

-- the bits of the cells are 1, and no others
pub record IsFull (words : List ℕ) (cells : ℕ) : Type 0 where
  pub counted : length words ≡ cells / 64 + min 1 (cells % 64)
  pub ones : (k : ℕ) → k < cells → bit_of words k ≡ 1
  pub spare : (k : ℕ) → cells ≤ k → bit_of words k ≡ 0

-- where the last word is wholly of the set
pub IsFull-whole : (words : List ℕ) (cells : ℕ) → words ≡ replicate (cells / 64 + min 1 (cells % 64)) (2 ^ 64 - 1) → cells % 64 ≡ 0 → IsFull words cells
IsFull-whole words cells is whole =
    let count = cells / 64 + min 1 (cells % 64) in
    let counted : length words ≡ count = ap length is ∙ length-replicate count (2 ^ 64 - 1) in
    let cover : 64 * count ≡ cells = omega arith in
    record {
      counted = counted;
      ones = λ k below. ap (λ (ws : List ℕ). bit_of ws k) is ∙ bit_of-replicate count (2 ^ 64 - 1) k (omega arith) ∙ bit_at_ones 64 (k % 64) (mod_below k 64 (omega arith));
      spare = λ k past. bit_of-past words k (omega arith);
    }

-- where the last word is cut
pub IsFull-cut : (words : List ℕ) (cells : ℕ) → words ≡ replicate (cells / 64 + min 1 (cells % 64)) (2 ^ 64 - 1) → 0 < cells % 64
    → IsFull (set words (cells / 64) ((2 ^ 64 - 1) / 2 ^ (64 - cells % 64))) cells
IsFull-cut words cells is some =
    let count = cells / 64 + min 1 (cells % 64) in
    let counted : length words ≡ count = ap length is ∙ length-replicate count (2 ^ 64 - 1) in
    let small = mod_below cells 64 (omega arith) in
    let more : count ≡ cells / 64 + 1 = omega arith in
    let there : cells / 64 < length words = omega arith in
    let last = (2 ^ 64 - 1) / 2 ^ (64 - cells % 64) in
    let rest : 64 - (64 - cells % 64) ≡ cells % 64 = omega arith in
    let ones : last ≡ 2 ^ (cells % 64) - 1 = ones_shr 64 (64 - cells % 64) (omega arith) ∙ ap (λ (e : ℕ). 2 ^ e - 1) rest in
    let whole = div-add-mod' cells 64 in
    record {
      counted = length-set words (cells / 64) last ∙ counted;
      ones = λ k below. let at = div-add-mod' k 64 in let bit = mod_below k 64 (omega arith) in elim (cases_eq (k / 64) (cells / 64)) [
        | inl here ↦ bit_of-here words (cells / 64) last k there here ∙ ap (λ (w : ℕ). bit_at w (k % 64)) ones ∙ bit_at_ones (cells % 64) (k % 64) (omega arith)
        | inr other ↦ bit_of-elsewhere words (cells / 64) last k other ∙ ap (λ (ws : List ℕ). bit_of ws k) is ∙ bit_of-replicate count (2 ^ 64 - 1) k (omega arith) ∙ bit_at_ones 64 (k % 64) bit
      ];
      spare = λ k past. let at = div-add-mod' k 64 in let bit = mod_below k 64 (omega arith) in elim (cases_eq (k / 64) (cells / 64)) [
        | inl here ↦ bit_of-here words (cells / 64) last k there here ∙ ap (λ (w : ℕ). bit_at w (k % 64)) ones ∙ bit_at_ones_above (cells % 64) (k % 64) (omega arith)
        | inr other ↦ bit_of-elsewhere words (cells / 64) last k other ∙ bit_of-past words k (omega arith)
      ];
    }

pub IsPacked-full : (words : List ℕ) (cells : ℕ) → cells ≤ 65536 → IsFull words cells → IsPacked words cells
IsPacked-full words cells few full = record { few = few; enough = let n = full.counted in omega arith; no_more = let n = full.counted in omega arith; spare = full.spare }

pub flags_of-full : (words : List ℕ) (cells : ℕ) → IsFull words cells → flags_of words cells ≡ replicate cells true
flags_of-full words cells full = flags_of-same words cells true (λ k below. eq-eqb (bit_of words k) 1 (full.ones k below))

pub flags_of-empty : (words : List ℕ) (cells n : ℕ) → words ≡ replicate n 0 → cells ≤ 64 * n → flags_of words cells ≡ replicate cells false
flags_of-empty words cells n is enough = flags_of-same words cells false (λ k below.
    let none : bit_of words k ≡ 0 = ap (λ (ws : List ℕ). bit_of ws k) is ∙ bit_of-replicate n 0 k (omega arith) ∙ bit_at-zero (k % 64) in
    ap (λ (b : ℕ). nat_eq b 1) none)

-- ---- two sets of one size

-- sets of one length have one size
pub same_size : (xs ys : List ℕ) (n m : ℕ) (set other : List Bool) → flags_of xs n ≡ set → flags_of ys m ≡ other → length set ≡ length other → n ≡ m
same_size xs ys n m set other is is_other same = sym (length-flags_of xs n) ∙ ap length is ∙ same ∙ sym (ap length is_other) ∙ length-flags_of ys m

-- sets of one size have as many words
pub same_count : (xs ys : List ℕ) (n m : ℕ) (set other : List Bool) → IsPacked xs n → flags_of xs n ≡ set → IsPacked ys m → flags_of ys m ≡ other → length set ≡ length other → length xs ≡ length ys
same_count xs ys n m set other packed is packed_other is_other same =
    let sizes = same_size xs ys n m set other is is_other same in
    let a = packed.enough in let b = packed.no_more in let c = packed_other.enough in let d = packed_other.no_more in
    omega arith
