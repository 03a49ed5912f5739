-- Lists of at most six elements that are kept in an array of six places.
use Rattle.std.specs.Prelude.{◌≡◌, ℕ, ◌-◌, ◌≤◌, List, ◌++◌, length, take, replicate}

-- the list in six places, the places after it holding `blank`
abbrev pub padded : {A : Type 0} → A → List A → List A
padded blank xs = xs ++ replicate (6 - length xs) blank

-- the array holds a list in its first places, and `blank` in the others
pub record IsStored {A : Type 0} (blank : A) (store : List A) (count : ℕ) : Type 0 where
  pub places : store ≡ padded blank (take count store)
  pub counted : count ≡ length (take count store)
  pub bounded : count ≤ 6
