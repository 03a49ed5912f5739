-- What the fields of a state say of the scene that it stands for.
use Rattle.std.proofs.Common.{◌≡◌, ◌↔◌, ℕ, Bool, List, length, ap, sym, ◌∙◌, subst, IfOk, Option, Result, Ok, Err}
use Rattle.drm_shape.specs.declared.Shape.{Shape}
use Rattle.drm_grid.specs.Layout.{Layout}
use Rattle.drm_grid.specs.CellSet.{Has}
use Rattle.drm_foot.specs.Foot.{IsOccupied}
use Rattle.drm_talk.specs.History.{Stands, shape_in}
use Rattle.drm_talk.specs.declared.Entry.{Entry}
use Rattle.drm_talk.specs.declared.Element.{Element}
use Rattle.drm_cellmap.specs.Roadmap.{Roadmap, stored}
use Rattle.drm_cellmap.specs.Tally.{IsTally}
use Rattle.drm_cellmap.specs.Barred.{IsCount}
use Rattle.drm_cellmap.specs.Snapshot.{Snapshot, IsSnapOf}
use Rattle.drm_cellmap.proofs.TallyLemmas.{tally_same}
use Rattle.drm_after.specs.After.{IsOccupiedAfter, IsSnapAfter}
use Rattle.drm_state.specs.Scene.{Scene, IsTable}
use Rattle.drm_foot.specs.Occupied.{HasExactly, IsCovered}
use Rattle.drm_foot.proofs.OccupiedLemmas.{covered_is_occupied}

-- cells that the table covers, counted, are the element's count after the journal
pub count_in_scene : (map near far : Roadmap) (grid : Layout) (journal : List Entry) (items table : List (Option Shape)) (cells : List ℕ) (e : Element) (k : ℕ) (now : Scene) → near ≡ map → far ≡ map → grid ≡ near.grid → table ≡ items → cells ≡ stored far e → record { map = map; journal = journal } ≡ now → IsTable journal items → IsTally (IsCovered grid table) cells k → IsCount now.map (IsOccupied now.map.grid (Stands now.journal)) e k
count_in_scene map near far grid journal items table cells e k now near_is far_is grid_is table_is cells_is now_is kept counted =
    let of_element = subst (λ (cs : List ℕ). IsTally (IsCovered grid table) cs k) (cells_is ∙ ap (λ m. stored m e) far_is) counted in
    let of_items = subst (λ (t : List (Option Shape)). IsTally (IsCovered grid t) (stored map e) k) table_is of_element in
    let on_map = subst (λ (g : Layout). IsTally (IsCovered g items) (stored map e) k) (grid_is ∙ ap (λ m. m.grid) near_is) of_items in
    let same = covered_is_occupied map.grid items (shape_in journal) kept.held in
    let after = tally_same (IsCovered map.grid items) (IsOccupied map.grid (Stands journal)) (λ c. (same c).0) (λ c. (same c).1) (stored map e) k on_map in
    subst (λ (s : Scene). IsCount s.map (IsOccupied s.map.grid (Stands s.journal)) e k) now_is after

-- the cells that the table covers are those occupied after the journal
pub occupied_in_scene : (map near : Roadmap) (grid : Layout) (journal : List Entry) (items table : List (Option Shape)) (size : ℕ) (set : List Bool) (now : Scene) → near ≡ map → grid ≡ near.grid → table ≡ items → record { map = map; journal = journal } ≡ now → IsTable journal items → HasExactly size (IsCovered grid table) set → (c : ℕ) → Has set c ↔ IsOccupied now.map.grid (Stands now.journal) c
occupied_in_scene map near grid journal items table size set now near_is grid_is table_is now_is kept cells c =
    let of_items = subst (λ (t : List (Option Shape)). Has set c ↔ IsCovered grid t c) table_is (cells.exact c) in
    let on_map = subst (λ (g : Layout). Has set c ↔ IsCovered g items c) (grid_is ∙ ap (λ m. m.grid) near_is) of_items in
    let same = covered_is_occupied map.grid items (shape_in journal) kept.held c in
    subst (λ (s : Scene). Has set c ↔ IsOccupied s.map.grid (Stands s.journal) c) now_is
    (λ has. same.0 (on_map.0 has), λ occupied. on_map.1 (same.1 occupied))

-- a snapshot of these cells and this number is the one after the journal
pub snap_of_scene : {E : Type 0} (r : Result Snapshot E) (set : List Bool) (number : ℕ) (map : Roadmap) (now : Scene) → number ≡ length now.journal → map ≡ now.map → ((cell : ℕ) → Has set cell ↔ IsOccupiedAfter now.map now.journal cell)
    → IfOk r (λ snap. snap.number ≡ number) → IfOk r (λ snap. snap.occupied ≡ set) → IfOk r (IsSnapOf map) → IfOk r (IsSnapAfter now.map now.journal)
snap_of_scene (Ok snap) set number map now long map_is cells numbered occupied barred = record {
  number = numbered ∙ long;
  occupied = λ cell. subst (λ (s : List Bool). Has s cell ↔ IsOccupiedAfter now.map now.journal cell) (sym occupied) (cells cell);
  barred = subst (λ (m : Roadmap). IsSnapOf m snap) map_is barred;
}
snap_of_scene (Err e) set number map now long map_is cells numbered occupied barred = tt
