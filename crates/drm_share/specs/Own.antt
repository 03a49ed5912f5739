-- The numbers of the entries of one caller.
use Rattle.std.specs.Prelude.{ℕ, ◌≡◌, ◌+◌, ◌⊎◌, ◌==◌, if◌then◌else◌, List, [], ◌∷◌}
use Rattle.drm_talk.specs.declared.Entry.{Entry}

-- the numbers of the caller's entries in a list whose first entry has the number n
abbrev pub numbers_from : ℕ → ℕ → List Entry → List ℕ
numbers_from caller n [] = []
numbers_from caller n (entry ∷ entries) =
    if entry.caller == caller then n ∷ numbers_from caller (n + 1) entries else numbers_from caller (n + 1) entries

-- the numbers of the caller's entries in a history: places in it, counted from 1
abbrev pub numbers_of : ℕ → List Entry → List ℕ
numbers_of caller history = numbers_from caller 1 history

-- the first list has some elements of the second, in their order
abbrev pub AreSome : List ℕ → List ℕ → Type 0
AreSome [] all = Unit {0}
AreSome (x ∷ xs) [] = ⊥
AreSome (x ∷ xs) (y ∷ ys) = ((x ≡ y) × AreSome xs ys) ⊎ AreSome (x ∷ xs) ys

-- the numbers are in increasing order those of entries of the history, and these are the caller's
pub record AreOwn (history : List Entry) (caller : ℕ) (own : List ℕ) : Type 0 where
  pub stand : AreSome own (numbers_of caller history)
