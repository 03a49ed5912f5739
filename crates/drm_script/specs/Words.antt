-- Lines of text: words with one space between each two, ended by one line feed.
use Rattle.std.specs.Prelude.{ℕ, ◌+◌, ◌==◌, ◌≢◌, Bool, false, not, nat_lt, if◌then◌else◌, Option, None, Some, List, [], ◌∷◌, ◌++◌, All, flat_map, count_by}
use Rattle.std.specs.List.{join_with_byte, slice_split, list_all}

-- the line of these words
abbrev pub line_of : List (List ℕ) → List ℕ
line_of words = join_with_byte 32 words ++ 10 ∷ []

-- the words of a line, which stands here without its line feed
abbrev pub words_in : List ℕ → List (List ℕ)
words_in line = slice_split (λ byte. byte == 32) line

-- the byte is not among these
abbrev pub Lacks : ℕ → List ℕ → Type 0
Lacks byte bytes = All (λ (other : ℕ). other ≢ byte) bytes

-- each byte of the word is above those that end a word
abbrev pub is_plain : List ℕ → Bool
is_plain word = list_all (λ byte. nat_lt 32 byte) word

-- the bytes before the first line feed
abbrev pub first_line : List ℕ → List ℕ
first_line [] = []
first_line (byte ∷ bytes) = if byte == 10 then [] else byte ∷ first_line bytes

-- the bytes behind the first line feed, if there is one
abbrev pub behind_line : List ℕ → Option (List ℕ)
behind_line [] = None
behind_line (byte ∷ bytes) = if byte == 10 then Some bytes else behind_line bytes

-- words with a blank before each
abbrev pub spaced : List (List ℕ) → List ℕ
spaced words = flat_map (λ word. 32 ∷ word) words

-- bytes stand behind the last line feed
abbrev pub is_open : List ℕ → Bool
is_open [] = false
is_open (byte ∷ []) = not (byte == 10)
is_open (byte ∷ next ∷ bytes) = is_open (next ∷ bytes)

-- how many lines there are: bytes behind the last line feed are one
abbrev pub lines_in : List ℕ → ℕ
lines_in bytes = count_by (λ byte. byte == 10) bytes + (if is_open bytes then 1 else 0)
