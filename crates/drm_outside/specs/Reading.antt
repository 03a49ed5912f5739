-- What a call that reads a source has taken from it, where the source tells the bytes that it has left.
use Rattle.std.specs.Prelude.{◌≡◌, ℕ, ◌+◌, ◌≤◌, List, length}
use Rattle.std.specs.declared.option.Option.{Option}
use Rattle.std.specs.Io.KnownBytes.{Consumes, IsAtEnd}
use Rattle.drm_outside.specs.declared.faults.ReadAllFault.{ReadAllFault}
use Rattle.drm_outside.specs.declared.faults.ReadAllFault.TheVariants.{Failed, TooLong, Memory}

-- the bytes are all that was left, up to the end of the source, and at most `limit` of them
pub record ReadsAll (old new : Option (List ℕ)) (limit : ℕ) (bytes : List ℕ) : Type 0 where
  pub consumed : Consumes old new bytes
  pub ended : IsAtEnd new
  pub within : length bytes ≤ limit

-- some next bytes were taken, at most n of them
abbrev pub TookAtMost : Option (List ℕ) → Option (List ℕ) → ℕ → Type 0
TookAtMost old new n = (bytes : List ℕ) × Consumes old new bytes × (length bytes ≤ n)

-- the next n bytes were taken
abbrev pub TookExactly : Option (List ℕ) → Option (List ℕ) → ℕ → Type 0
TookExactly old new n = (bytes : List ℕ) × Consumes old new bytes × (length bytes ≡ n)

-- what had been taken before the fault: at most `limit` bytes, or one more where the source is too long, and that fault carries the limit
abbrev pub TookBefore : ReadAllFault → Option (List ℕ) → Option (List ℕ) → ℕ → Type 0
TookBefore Failed old new limit = TookAtMost old new limit
TookBefore (TooLong n) old new limit = (n ≡ limit) × TookExactly old new (limit + 1)
TookBefore Memory old new limit = TookAtMost old new limit
