-- Each step of the published value keeps the rule.
use Rattle.std.proofs.Common.{◌≡◌, ℕ, ◌≢◌, [], set, refl, ◌∙◌, ⊎_elim, Bool, true, false, Option, Some, None}
use mathlib.Core.Option.{some}
use lib.ListN.{get_elem?}
use Rattle.left_right.specs.Register.{Admits, TurnsAt, Forks, Merges}
use Rattle.atomic_table.proofs.Lists.{at_set, at_snoc}
use Rattle.drm_state.specs.Scene.{Scene}
use Rattle.drm_state.specs.Edit.{Edit, takes, after}
use Rattle.drm_share.specs.declared.shown.Shown.{Shown}
use Rattle.drm_share.specs.declared.shown.Update.{Update}
use Rattle.drm_share.specs.declared.rule.Known.{Known}
use Rattle.drm_share.specs.Published.{next, mark, Keeps, Marked, CanFollow}

-- an edit leaves the map
after_map : (scene : Scene) (edit : Edit) (b : Bool) → takes scene edit ≡ b → (after scene edit).map ≡ scene.map
after_map scene edit true is = rw is refl
after_map scene edit false is = rw is refl

-- an update that may follow leaves the book and the map
pub mark_stays : (shown : Shown) (update : Update) → CanFollow shown update → mark (next shown update) ≡ mark shown
mark_stays shown update can =
    let map_is = after_map shown.state update.op (takes shown.state update.op) refl in
    let book_is = can.of_book in cc

-- a new reader knows nothing
pub admits : Admits Keeps None
admits x views kept = (
  kept.0,
  λ seat view at known is.
      ⊎_elim (λ (old : get_elem? views seat ≡ some view). kept.1 seat view old known is)
      (λ (new : None ≡ view). absurd (cc (new, is))) (at_snoc views None view seat at),
)

-- a value of the same book and map is published, or seen
pub turns : (seat : ℕ) (view : Option Known) (x y : Shown) → (Keeps x [] → y.state.journal ≡ y.reach.log) → mark y ≡ mark x → TurnsAt Keeps seat view x y Marked
turns seat view x y stands same views kept at =
    let journal = stands (kept.0, λ s v none. absurd cc) in (
      Some (mark y),
      (
        journal,
        λ other known_view there known is.
            ⊎_elim (λ (new : (other ≡ seat) × (Some (mark y) ≡ known_view)). let told : Some (mark y) ≡ Some known = new.1 ∙ is in cc told)
            (λ (old : (other ≢ seat) × (get_elem? views other ≡ some known_view)). same ∙ kept.1 other known_view old.1 known is)
            (at_set views seat other (Some (mark y)) known_view there),
      ),
      (refl, journal, λ known is. same ∙ kept.1 seat view at known is),
    )

-- a note of what the writer knows
pub forks : (seat : ℕ) (view : Option Known) → Forks Keeps seat view view view
forks seat view x views kept at = (
  kept.0,
  λ other known_view there known is.
      ⊎_elim
      (λ (old : get_elem? (set views seat view) other ≡ some known_view).
      ⊎_elim (λ (new : (other ≡ seat) × (view ≡ known_view)). kept.1 seat view at known (new.1 ∙ is))
      (λ (kept_view : (other ≢ seat) × (get_elem? views other ≡ some known_view)). kept.1 other known_view kept_view.1 known is)
      (at_set views seat other view known_view old))
      (λ (new : view ≡ known_view). kept.1 seat view at known (new ∙ is))
      (at_snoc (set views seat view) view known_view other there),
)

-- a reader knows what the note says
pub merges : (seat : ℕ) (view : Option Known) (other : ℕ) (note : Option Known) → Merges Keeps seat view other note note None
merges seat view other note x views kept at apart there =
    let of_note : (known : Known) → note ≡ Some known → mark x ≡ known =
    λ known is. ⊎_elim (λ (same : (other ≡ seat) × (note ≡ note)). absurd (apart same.0))
    (λ (old : (other ≢ seat) × (get_elem? views other ≡ some note)). kept.1 other note old.1 known is)
    (at_set views seat other note note there) in (
      kept.0,
      λ third third_view at_third known is.
          ⊎_elim (λ (spent : (third ≡ other) × (None ≡ third_view)). absurd (cc (spent.1, is)))
          (λ (left : (third ≢ other) × (get_elem? (set views seat note) third ≡ some third_view)).
          ⊎_elim (λ (mine : (third ≡ seat) × (note ≡ third_view)). of_note known (mine.1 ∙ is))
          (λ (old : (third ≢ seat) × (get_elem? views third ≡ some third_view)). kept.1 third third_view old.1 known is)
          (at_set views seat third note third_view left.1))
          (at_set (set views seat note) other third None third_view at_third),
    )
