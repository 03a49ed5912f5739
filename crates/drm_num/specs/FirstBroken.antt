-- The first broken rule: the rules of a type stand in a list, in the order in which they are tested.
use Rattle.std.specs.Prelude.{ℕ, Bool, not, List, [], ◌∷◌, position, Option, Some, None, if◌then◌else◌}
use Rattle.std.specs.Option.{option_or, option_map}

-- the fault, where the rule is not kept
abbrev pub unless : {F : Type 0} → Bool → F → Option F
unless kept fault = if kept then None else Some fault

-- the fault with the place of the first element that does not keep the rule
abbrev pub broken_at : {A F : Type 0} → (ℕ → F) → (A → Bool) → List A → Option F
broken_at fault keeps xs = option_map fault (position (λ x. not (keeps x)) xs)

-- the first of the rules that is broken, or none
abbrev pub first_of : {F : Type 0} → List (Option F) → Option F
first_of [] = None
first_of (rule ∷ rules) = option_or rule (first_of rules)
