-- What stands at the front of some bytes.
use Rattle.std.specs.Prelude.{ℕ, ◌≡◌, List, ◌++◌}

-- the bytes are the text of x, and then the rest
pub record BeginsWith {X : Type 0} (text_of : X → List ℕ) (Fits : X → Type 0) (bytes : List ℕ) (x : X) (rest : List ℕ) : Type 0 where
  pub fits : Fits x
  pub text : bytes ≡ text_of x ++ rest

-- the bytes begin with no text
abbrev pub BeginsWithNone : {X : Type 0} → (X → List ℕ) → (X → Type 0) → List ℕ → Type 0
BeginsWithNone {X} text_of Fits bytes = (x : X) (more : List ℕ) → Fits x → bytes ≡ text_of x ++ more → ⊥
