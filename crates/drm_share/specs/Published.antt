-- The published value, what a publish does to it, and the rule that every step keeps.
use Rattle.std.specs.Prelude.{◌≡◌, ℕ, List, Option, Some}
use mathlib.Core.Option.{some}
use lib.ListN.{get_elem?}
use Rattle.logbook.specs.Pages.{Book}
use Rattle.drm_talk.specs.declared.Entry.{Entry}
use Rattle.drm_cellmap.specs.Roadmap.{Roadmap}
use Rattle.drm_state.specs.Edit.{after}
use Rattle.drm_share.specs.declared.shown.Shown.{Shown}
use Rattle.drm_share.specs.declared.shown.Update.{Update}
use Rattle.drm_share.specs.declared.rule.Known.{Known}

-- the value after an update: the state after its edit, with the front that ends with it
abbrev pub next : Shown → Update → Shown
next shown update = record { state = after shown.state update.op; reach = update.reach }

-- what never changes of a published value: the book of its history, and its map
abbrev pub mark : Shown → Known
mark shown = record { origin = shown.reach.book; map = shown.state.map }

-- the state stands for the history with which it is published, and who knows the book and the map knows those of it
abbrev pub Keeps : Shown → List (Option Known) → Type 0
Keeps shown views =
    (shown.state.journal ≡ shown.reach.log)
    × ((seat : ℕ) (view : Option Known) → get_elem? views seat ≡ some view → (known : Known) → view ≡ Some known → mark shown ≡ known)

-- the value y is seen: it stands for its history, is of the known book and map, and these are known from then on
abbrev pub Marked : Option Known → Shown → Shown → Option Known → Type 0
Marked before x y after =
    (after ≡ Some (mark y)) × (y.state.journal ≡ y.reach.log) × ((known : Known) → before ≡ Some known → mark y ≡ known)

-- the value stands for this history, over this book and map
pub record Shows (book : Book) (map : Roadmap) (history : List Entry) (shown : Shown) : Type 0 where
  pub of_book : shown.reach.book ≡ book
  pub of_map : shown.state.map ≡ map
  pub seen : shown.reach.log ≡ history
  pub stands : shown.state.journal ≡ history

-- the update is one that may be published: the state after it stands for its history, which is of the same book
pub record CanFollow (shown : Shown) (update : Update) : Type 0 where
  pub stands : (next shown update).state.journal ≡ update.reach.log
  pub of_book : update.reach.book ≡ shown.reach.book
