-- A history has one snapshot: each of its sets is determined by what it is the set of.
use Rattle.std.proofs.Common.{◌≡◌, ℕ, ◌<◌, List, get_or, Bool, ap, sym, ◌∙◌, subst, arith}
use Rattle.std.specs.Bool.{Decides}
use Rattle.std.proofs.lemmas.Bool.Decides.{same_from_decides}
use Rattle.std.proofs.lemmas.List.{same_lists}
use Rattle.std.proofs.lemmas.Option.{slice_get-get_or}
use Rattle.drm_grid.specs.Layout.{cell_count}
use Rattle.drm_grid.specs.CellSet.{Has}
use Rattle.drm_talk.specs.declared.Entry.{Entry}
use Rattle.drm_cellmap.specs.Elements.{node_count, edge_count}
use Rattle.drm_cellmap.specs.Roadmap.{Roadmap}
use Rattle.drm_cellmap.specs.Barred.{IsNodeBarred, IsEdgeBarred}
use Rattle.drm_cellmap.specs.Snapshot.{Snapshot, AreFlags}
use Rattle.drm_after.specs.After.{IsOccupiedAfter, IsSnapAfter, SnapsAreDetermined}

-- the flags of a property are one list
flags_are_one : (n : ℕ) (P : ℕ → Type 0) (flags others : List Bool) → AreFlags n P flags → AreFlags n P others → flags ≡ others
flags_are_one n P flags others are too = same_lists flags others (omega (arith, are.one_each, too.one_each)) (λ k d below.
    let size = are.one_each in
    let long = too.one_each in
    same_from_decides {P = P k} (get_or flags k d) (get_or others k d) (at flags k d are (omega arith)) (at others k d too (omega arith)))
  where
    at : (xs : List Bool) (k : ℕ) (d : Bool) → AreFlags n P xs → k < n → Decides (get_or xs k d) (P k)
    at xs k d are below =
        let there = slice_get-get_or xs k d (omega (arith, are.one_each)) in
        let (flagged, raised) = are.exact k below in
        ((λ is. flagged (cc)), (λ has. let flag = raised has in cc))

-- a history has one snapshot
pub snap_is_one : SnapsAreDetermined
snap_is_one map history snap other after too =
    let made : ℕ → List Bool → List Bool → List Bool → Snapshot = λ n occupied nodes edges. record { number = n; occupied = occupied; nodes = nodes; edges = edges } in
    ap (λ (n : ℕ). made n snap.occupied snap.nodes snap.edges) (after.number ∙ sym too.number)
    ∙ ap (λ (set : List Bool). made other.number set snap.nodes snap.edges) occupied
    ∙ ap (λ (set : List Bool). made other.number other.occupied set snap.edges) nodes
    ∙ ap (λ (set : List Bool). made other.number other.occupied other.nodes set) edges
  where
    standing : (s : Snapshot) → IsSnapAfter map history s → AreFlags (cell_count map.grid) (IsOccupiedAfter map history) s.occupied
    standing s is = record { one_each = is.barred.cells; exact = λ cell below. is.occupied cell }

    occupied : snap.occupied ≡ other.occupied
    occupied = flags_are_one (cell_count map.grid) (IsOccupiedAfter map history) snap.occupied other.occupied (standing snap after) (standing other too)

    nodes : snap.nodes ≡ other.nodes
    nodes = flags_are_one (node_count map.road) (IsNodeBarred map (Has snap.occupied)) snap.nodes other.nodes after.barred.nodes
        (subst (λ (set : List Bool). AreFlags (node_count map.road) (IsNodeBarred map (Has set)) other.nodes) (sym occupied) too.barred.nodes)

    edges : snap.edges ≡ other.edges
    edges = flags_are_one (edge_count map.road) (IsEdgeBarred map (Has snap.occupied)) snap.edges other.edges after.barred.edges
        (subst (λ (set : List Bool). AreFlags (edge_count map.road) (IsEdgeBarred map (Has set)) other.edges) (sym occupied) too.barred.edges)
