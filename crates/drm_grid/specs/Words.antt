-- The flags of a set of cells, as the bits of a list of words: 64 flags a word, the least cell in the lowest bit.
use Rattle.std.specs.Prelude.{◌≡◌, ℕ, ◌+◌, ◌*◌, ◌/◌, ◌%◌, ◌<◌, ◌≤◌, Bool, nat_eq, List, length, map, slice_index}
use Rattle.std.specs.List.{range_with_len}
use Rattle.std.specs.Int.{bit_at}

-- the bit of the cell
abbrev pub bit_of : List ℕ → ℕ → ℕ
bit_of words cell = bit_at (slice_index words (cell / 64)) (cell % 64)

-- the flags of the cells below a size
unfoldable pub flags_of : List ℕ → ℕ → List Bool
flags_of words cells = map (λ cell. nat_eq (bit_of words cell) 1) (range_with_len 0 cells)

-- there are as many words as the flags need, and the bits that no cell has are 0
pub record IsPacked (words : List ℕ) (cells : ℕ) : Type 0 where
  pub few : cells ≤ 65536
  pub enough : cells ≤ 64 * length words
  pub no_more : 64 * length words < cells + 64
  pub spare : (cell : ℕ) → cells ≤ cell → bit_of words cell ≡ 0

-- the cell of a word's place is the one of a bit that is 1
pub record IsBitCell (place word cell : ℕ) : Type 0 where
  pub in_word : cell / 64 ≡ place
  pub is_set : bit_at word (cell % 64) ≡ 1
