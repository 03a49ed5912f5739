-- Tallies by flags, and what an element that is not barred lacks.
use Rattle.std.proofs.Common.{◌≡◌, ◌⊎◌, ℕ, zero, suc, ◌+◌, ◌<◌, Bool, true, false, List, [], ◌∷◌, length, inl, inr, refl, arith, Option, None, Some, slice_get, get_or}
use Rattle.std.specs.Prelude.{Contains}
use Rattle.drm_grid.specs.CellSet.{Has}
use Rattle.drm_talk.specs.declared.Element.{Element}
use Rattle.drm_talk.specs.declared.Element.TheVariants.{Node, Edge}
use Rattle.drm_cellmap.specs.Tally.{IsTally}
use Rattle.drm_road.specs.Elements.{node_count, edge_count}
use Rattle.drm_cellmap.specs.Roadmap.{Roadmap, stored}
use Rattle.drm_cellmap.specs.Barred.{IsMet}
use Rattle.drm_cellmap.specs.Snapshot.{Snapshot, IsSnapOf}

-- one more element, which has P or lacks it
tally_more : (P : ℕ → Type 0) (x k : ℕ) (xs : List ℕ) → (P x ⊎ (P x → ⊥)) → IsTally P xs k → (j : ℕ) × IsTally P (x ∷ xs) j
tally_more P x k xs (inl has) rest = (k + 1, inl (has, (k, refl, rest)))
tally_more P x k xs (inr lacks) rest = (k, inr (lacks, rest))

-- where each element has P or lacks it, a list has a tally
pub tally_exists : (P : ℕ → Type 0) → ((x : ℕ) → P x ⊎ (P x → ⊥)) → (xs : List ℕ) → (k : ℕ) × IsTally P xs k
tally_exists P says [] = (0, refl)
tally_exists P says (x ∷ xs) = let rest = tally_exists P says xs in tally_more P x rest.0 xs (says x) rest.1

-- an element with P makes the tally above 0
pub tally_found : (P : ℕ → Type 0) (xs : List ℕ) (k i x : ℕ) → IsTally P xs k → i < length xs → get_or xs i x ≡ x → P x → 0 < k
tally_found P [] k i x tally below is has = absurd (omega arith)
tally_found P (y ∷ ys) k i x (inl (here, (j, more, rest))) below is has = omega arith
tally_found P (y ∷ ys) k zero x (inr (lacks, rest)) below is has = absurd (lacks (rw is has))
tally_found P (y ∷ ys) k (suc i) x (inr (lacks, rest)) below is has = tally_found P ys k i x rest (omega arith) is has

-- a flag is raised or not
flag_decided : (flag : Option Bool) → (flag ≡ Some true) ⊎ (flag ≡ Some true → ⊥)
flag_decided None = inr (λ e. cc)
flag_decided (Some true) = inl refl
flag_decided (Some false) = inr (λ e. cc)

-- a set has a cell or lacks it
pub has_decided : (set : List Bool) (cell : ℕ) → Has set cell ⊎ (Has set cell → ⊥)
has_decided set cell = flag_decided (slice_get set cell)

-- an element with an occupied cell in its stored sweep has a count above 0
met_by_cell : (map : Roadmap) (set : List Bool) (x : Element) (cell : ℕ) → Contains (stored map x) cell → Has set cell → IsMet map (Has set) x
met_by_cell map set x cell (i, below, is) has =
    let tally = tally_exists (Has set) (has_decided set) (stored map x) in
    (tally.0, tally_found (Has set) (stored map x) tally.0 i cell tally.1 below is has, tally.1)

-- the stored sweep of a node that is not barred has no occupied cell
pub open_node_lacks : (map : Roadmap) (snap : Snapshot) (i cell : ℕ) → IsSnapOf map snap → i < node_count map.road → (Has snap.nodes i → ⊥) → Contains (stored map (Node i)) cell → Has snap.occupied cell → ⊥
open_node_lacks map snap i cell of below is_open among has = is_open ((of.nodes.exact i below).1 (met_by_cell map snap.occupied (Node i) cell among has))

-- the same of an edge
pub open_edge_lacks : (map : Roadmap) (snap : Snapshot) (i cell : ℕ) → IsSnapOf map snap → i < edge_count map.road → (Has snap.edges i → ⊥) → Contains (stored map (Edge i)) cell → Has snap.occupied cell → ⊥
open_edge_lacks map snap i cell of below is_open among has = is_open ((of.edges.exact i below).1 (inl (met_by_cell map snap.occupied (Edge i) cell among has)))
