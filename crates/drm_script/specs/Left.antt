-- What is left of a line while its words are read.
use Rattle.std.specs.Prelude.{ℕ, ◌≡◌, ◌==◌, ◌⊎◌, if◌then◌else◌, Option, None, Some, List, [], ◌∷◌}
use Rattle.drm_script.specs.Words.{words_in, first_line, behind_line}
use Rattle.drm_script.specs.declared.words.Place.{Place}
use Rattle.drm_script.specs.declared.words.Place.TheVariants.{Word, Behind, End}

-- the words that are left, and the bytes behind the line feed, if the line has one
pub record Left : Type 0 where
  pub words : List (List ℕ)
  pub behind : Option (List ℕ)

-- what is left of the first line of these bytes, of which nothing is read yet
abbrev pub line_left : List ℕ → Left
line_left bytes = record { words = words_in (first_line bytes); behind = behind_line bytes }

-- what is left at a place where these bytes stand
abbrev pub left_at : Place → List ℕ → Left
left_at Word bytes = line_left bytes
left_at Behind bytes = record { words = []; behind = Some bytes }
left_at End bytes = record { words = []; behind = None }

-- a word ends before these bytes: they are none, or begin with a blank or a line feed
abbrev pub IsEnd : List ℕ → Type 0
IsEnd [] = Unit {0}
IsEnd (byte ∷ bytes) = (byte ≡ 32) ⊎ (byte ≡ 10)

-- what is left behind a word that ends before these bytes
abbrev pub left_behind : List ℕ → Left
left_behind [] = record { words = []; behind = None }
left_behind (byte ∷ bytes) = if byte == 10 then record { words = []; behind = Some bytes } else line_left bytes
