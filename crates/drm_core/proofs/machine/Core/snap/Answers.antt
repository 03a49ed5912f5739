-- What the table covers is what the first entries leave occupied.
use Rattle.std.proofs.Common.{◌≡◌, ◌↔◌, ℕ, ◌≤◌, Bool, List, length, take, get_or, IfOk, Ok, Err, Result, Option, None, sym, ◌∙◌, ap, subst}
use Rattle.std.proofs.lemmas.List.{length-take-le}
use Rattle.drm_shape.specs.declared.Shape.{Shape}
use Rattle.drm_grid.specs.Layout.{Layout}
use Rattle.drm_grid.specs.CellSet.{Has}
use Rattle.drm_foot.specs.Foot.{IsOccupied}
use Rattle.drm_talk.specs.declared.Entry.{Entry}
use Rattle.drm_talk.specs.History.{Stands, shape_in}
use Rattle.drm_cellmap.specs.Roadmap.{Roadmap}
use Rattle.drm_cellmap.specs.Snapshot.{Snapshot, IsSnapOf}
use Rattle.drm_after.specs.After.{IsOccupiedAfter, IsSnapAfter}
use Rattle.drm_core.specs.Machine.{Machine}
use Rattle.drm_foot.specs.Occupied.{HasExactly, IsCovered}
use Rattle.drm_foot.proofs.OccupiedLemmas.{covered_is_occupied}
use Rattle.drm_core.proofs.machine.Core.snap.Goals as goal

after_them : {E : Type 0} (r : Result Snapshot E) (set : List Bool) (n : ℕ) (near map : Roadmap) (history : List Entry) → n ≤ length history → near ≡ map → ((cell : ℕ) → Has set cell ↔ IsOccupiedAfter map (take n history) cell)
    → IfOk r (λ snap. snap.number ≡ n) → IfOk r (λ snap. snap.occupied ≡ set) → IfOk r (IsSnapOf near) → IfOk r (IsSnapAfter map (take n history))
after_them (Ok snap) set n near map history within map_is cells numbered occupied barred = record {
  number = numbered ∙ sym (length-take-le n history within);
  occupied = λ cell. subst (λ (s : List Bool). Has s cell ↔ IsOccupiedAfter map (take n history) cell) (sym occupied) (cells cell);
  barred = subst (λ (m : Roadmap). IsSnapOf m snap) map_is barred;
}
after_them (Err e) set n near map history within map_is cells numbered occupied barred = tt

cells_of : (near grid : Layout) (lent table : List (Option Shape)) (entries : List Entry) (size : ℕ) (set : List Bool) → near ≡ grid → lent ≡ table → ((slot : ℕ) → get_or table slot None ≡ shape_in entries slot)
    → HasExactly size (IsCovered near lent) set → (cell : ℕ) → Has set cell ↔ IsOccupied grid (Stands entries) cell
cells_of near grid lent table entries size set grid_is table_is slots cells cell =
    let on_grid = subst (λ (g : Layout). Has set cell ↔ IsCovered g lent cell) grid_is (cells.exact cell) in
    let of_table = subst (λ (t : List (Option Shape)). Has set cell ↔ IsCovered grid t cell) table_is on_grid in
    let same = covered_is_occupied grid table (shape_in entries) slots cell in
    (λ has. same.0 (of_table.0 has), λ occupied. of_table.1 (same.1 occupied))

pub returns-clause-after : goal.returns-clause-after
returns-clause-after c =
    let now = c.args.self.now in
    let history = c.deref.ensures.value ∙ ap (λ (m : Machine). m.history) c.self.view_is in
    let slots : (slot : ℕ) → get_or c.in_ok-table.table.items slot None ≡ shape_in (take c.args.n now.history) slot =
    λ slot. c.in_ok-table.ensures.slots slot ∙ ap (λ (es : List Entry). shape_in (take c.args.n es) slot) history in
    let grid = c.grid.ensures.exact ∙ ap (λ (m : Roadmap). m.grid) (c.deref-2.ensures ∙ ap (λ (m : Machine). m.map) c.self.view_is) in
    after_them c.of-2.result c.in_ok-occupied.occupied c.args.n _ now.map now.history c.requires (c.deref-5.ensures ∙ ap (λ (m : Machine). m.map) c.self.view_is)
    (cells_of c.grid.result.now now.map.grid c.deref-3.result.now c.in_ok-table.table.items (take c.args.n now.history) _ c.in_ok-occupied.occupied grid c.deref-3.ensures.value slots c.in_ok-occupied.ensures)
    c.of-2.ensures.number c.of-2.ensures.occupied c.of-2.ensures.barred
