-- What a pass stands for: a caller, the front of the history that it has seen, and its own edits.
use Rattle.std.specs.Prelude.{ℕ, ◌≡◌, ◌<◌, List, [], ◌∷◌, ◌++◌, length, Option}
use Rattle.drm_shape.specs.declared.Shape.{Shape}
use Rattle.drm_talk.specs.declared.Entry.{Entry}
use Rattle.drm_talk.specs.Front.{Begins, EndsWithEdit}

-- the caller, the front, and the numbers of the caller's accepted edits in their order
pub record Seen : Type 0 where
  pub caller : ℕ
  pub front : List Entry
  pub own : List ℕ

-- a caller that has seen and made nothing
abbrev pub fresh : ℕ → Seen
fresh caller = record { caller = caller; front = []; own = [] }

-- the front goes on, and no edit was made
pub record ReadsOn (before after : Seen) : Type 0 where
  pub caller : after.caller ≡ before.caller
  pub begins : Begins before.front after.front
  pub own : after.own ≡ before.own

-- the front goes on to the caller's new edit, which is entry n of it
pub record EditsOn (before after : Seen) (n slot : ℕ) (content : Option Shape) : Type 0 where
  pub caller : after.caller ≡ before.caller
  pub begins : Begins before.front after.front
  pub number : n ≡ length after.front
  pub grown : length before.front < length after.front
  pub last : EndsWithEdit after.front before.caller slot content
  pub own : after.own ≡ before.own ++ n ∷ []
