-- Lists of at most sixteen numbers that are kept in an array of sixteen places.
use Rattle.std.specs.Prelude.{◌≡◌, ℕ, ◌-◌, ◌≤◌, ℤ, pos, List, ◌++◌, length, take, replicate}

-- the list in sixteen places, the places after it holding 0
abbrev pub padded : List ℤ → List ℤ
padded xs = xs ++ replicate (16 - length xs) (pos 0)

-- the array holds a list in its first places, and 0 in the others
pub record IsStored (store : List ℤ) (count : ℕ) : Type 0 where
  pub places : store ≡ padded (take count store)
  pub counted : count ≡ length (take count store)
