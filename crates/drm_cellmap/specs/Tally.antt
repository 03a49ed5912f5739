-- How many elements of a list have a property.
use Rattle.std.specs.Prelude.{◌≡◌, ◌⊎◌, ℕ, ◌+◌, List, [], ◌∷◌}

-- k is the number of elements of the list that have P
abbrev pub IsTally : {X : Type 0} → (X → Type 0) → List X → ℕ → Type 0
IsTally P [] k = k ≡ 0
IsTally P (x ∷ xs) k = (P x × ((j : ℕ) × (k ≡ j + 1) × IsTally P xs j)) ⊎ ((P x → ⊥) × IsTally P xs k)
