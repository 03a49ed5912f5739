-- Named byte strings: what a shelf's calls give and leave, where the shelf tells what its names hold.
use Rattle.std.specs.Prelude.{◌≡◌, ℕ, ◌≤◌, ◌<◌, List, length, Option, Some, None}
use Rattle.drm_outside.specs.Causes.{Rose}
use Rattle.drm_outside.specs.declared.faults.LoadFault.{LoadFault}
use Rattle.drm_outside.specs.declared.faults.LoadFault.TheVariants.{Failed, TooLong, Memory}

-- what each name holds: its bytes, or nothing where the shelf lacks the name
abbrev pub Names : Type 0
Names = List ℕ → Option (List ℕ)

-- each name holds what it held
abbrev pub HoldsTheSame : Option Names → Option Names → Type 0
HoldsTheSame (Some old) (Some new) = (name : List ℕ) → new name ≡ old name
HoldsTheSame None None = Unit {0}
HoldsTheSame _ _ = ⊥

-- each other name holds what it held
abbrev pub HoldsOthers : Option Names → Option Names → List ℕ → Type 0
HoldsOthers (Some old) (Some new) name = (other : List ℕ) → ¬ (other ≡ name) → new other ≡ old other
HoldsOthers None None name = Unit {0}
HoldsOthers _ _ name = ⊥

-- the name holds the bytes
abbrev pub HoldsAt : Option Names → List ℕ → List ℕ → Type 0
HoldsAt (Some names) name bytes = names name ≡ Some bytes
HoldsAt None name bytes = Unit {0}

-- the bytes are those that the name holds, at most `limit` of them
pub record Loads (names : Option Names) (name : List ℕ) (limit : ℕ) (bytes : List ℕ) : Type 0 where
  pub held : HoldsAt names name bytes
  pub within : length bytes ≤ limit

-- the name holds more than `limit` bytes
abbrev pub IsTooLong : Option Names → List ℕ → ℕ → Type 0
IsTooLong (Some names) name limit = (bytes : List ℕ) × (names name ≡ Some bytes) × (limit < length bytes)
IsTooLong None name limit = Unit {0}

-- why a load gave nothing: that the bytes are too many is told with the limit
abbrev pub RefusesLoad : LoadFault → Option Names → List ℕ → ℕ → Type 0
RefusesLoad Failed names name limit = Unit {0}
RefusesLoad (TooLong n) names name limit = (n ≡ limit) × IsTooLong names name limit
RefusesLoad Memory names name limit = Unit {0}

-- no name's count falls
abbrev pub NeverFalls : (List ℕ → ℕ) → (List ℕ → ℕ) → Type 0
NeverFalls before now = (name : List ℕ) → before name ≤ now name

-- no name's count of faults falls, and the call answers that something failed only where that of its own name rose
pub record HasCauseAt (failed : Type 0) (name : List ℕ) (before now : List ℕ → ℕ) : Type 0 where
  pub later : NeverFalls before now
  pub rose : failed → Rose (before name) (now name)
