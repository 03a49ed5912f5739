-- Counts and barred elements depend on which cells are occupied alone, and the counts tell what is barred.
use Rattle.std.proofs.Common.{◌≡◌, ℕ, ◌<◌, ◌↔◌, Bool, List, [], length, get_or, slice_index, inl, inr, subst, arith}
use Rattle.std.specs.List.{range_with_len}
use Rattle.drm_grid.specs.Layout.{cell_count}
use Rattle.drm_grid.specs.CellSet.{Has}
use Rattle.drm_talk.specs.declared.Element.{Element}
use Rattle.drm_talk.specs.declared.Element.TheVariants.{Node, Edge}
use Rattle.drm_road.specs.Road.{Road, IsRoad, HasEnds}
use Rattle.drm_road.specs.Elements.{node_count, edge_count}
use Rattle.drm_cellmap.specs.Roadmap.{Roadmap, IsElement, IsRoadmap, place_of, stored}
use Rattle.drm_cellmap.specs.Tally.{IsTally}
use Rattle.drm_cellmap.specs.Barred.{IsCount, AreCounts, IsMet, IsNodeBarred, IsEdgeBarred, AreTotals}
use Rattle.drm_cellmap.specs.Snapshot.{Snapshot, AreFlags, IsEdgeMet, IsSnapOf}
use Rattle.drm_cellmap.proofs.TallyLemmas.{tally_unique, tally_same, tally_same_in_range}
use Rattle.drm_cellmap.proofs.SweepLemmas.{place_below}

-- an element has one count
pub count_unique : (map : Roadmap) (P : ℕ → Type 0) (x : Element) (j k : ℕ) → IsCount map P x j → IsCount map P x k → j ≡ k
count_unique map P x j k a b = tally_unique P (stored map x) j k a b

-- where the same cells are occupied an element has the same count
pub counts_same : (map : Roadmap) (P Q : ℕ → Type 0) → ((c : ℕ) → P c ↔ Q c) → (x : Element) (k : ℕ) → IsCount map P x k → IsCount map Q x k
counts_same map P Q same x k count = tally_same P Q (λ c p. (same c).0 p) (λ c q. (same c).1 q) (stored map x) k count

-- the same of the list of all counts
pub all_counts_same : (map : Roadmap) (P Q : ℕ → Type 0) → ((c : ℕ) → P c ↔ Q c) → (counts : List ℕ) → AreCounts map P counts → AreCounts map Q counts
all_counts_same map P Q same counts are = record {
  one_each = are.one_each;
  exact = λ place below. tally_same P Q (λ c p. (same c).0 p) (λ c q. (same c).1 q) (get_or map.sweeps place []) (slice_index counts place) (are.exact place below);
}

-- the same of a count that is not 0
pub met_same : (map : Roadmap) (P Q : ℕ → Type 0) → ((c : ℕ) → P c ↔ Q c) → (x : Element) → IsMet map P x → IsMet map Q x
met_same map P Q same x (k, above, count) = (k, above, counts_same map P Q same x k count)

-- the same of a barred edge
pub edge_barred_same : (map : Roadmap) (P Q : ℕ → Type 0) → ((c : ℕ) → P c ↔ Q c) → (i : ℕ) → IsEdgeBarred map P i → IsEdgeBarred map Q i
edge_barred_same map P Q same i (inl met) = inl (met_same map P Q same (Edge i) met)
edge_barred_same map P Q same i (inr (a, b, ends, inl first)) = inr (a, b, ends, inl (met_same map P Q same (Node a) first))
edge_barred_same map P Q same i (inr (a, b, ends, inr second)) = inr (a, b, ends, inr (met_same map P Q same (Node b) second))

-- the same of the totals
pub totals_same : (map : Roadmap) (P Q : ℕ → Type 0) → ((c : ℕ) → P c ↔ Q c) → (n e : ℕ) → AreTotals map P n e → AreTotals map Q n e
totals_same map P Q same n e totals =
    let back : (c : ℕ) → Q c ↔ P c = λ c. ((same c).1, (same c).0) in
    let totals_of_Q : AreTotals map Q n e = record {
      nodes = tally_same (IsNodeBarred map P) (IsNodeBarred map Q) (λ i p. met_same map P Q same (Node i) p) (λ i q. met_same map Q P back (Node i) q) _ n totals.nodes;
      edges = tally_same (IsEdgeBarred map P) (IsEdgeBarred map Q) (λ i p. edge_barred_same map P Q same i p) (λ i q. edge_barred_same map Q P back i q) _ e totals.edges;
    } in
    totals_of_Q

-- there is one number of barred nodes and one of barred edges
pub totals_unique : (map : Roadmap) (P : ℕ → Type 0) (n e m f : ℕ) → AreTotals map P n e → AreTotals map P m f → (n ≡ m) × (e ≡ f)
totals_unique map P n e m f a b =
    (tally_unique (IsNodeBarred map P) _ n m a.nodes b.nodes, tally_unique (IsEdgeBarred map P) _ e f a.edges b.edges)

-- an element has a count that is not 0 exactly where the one in the list is not 0
pub met_by_counts : (map : Roadmap) (P : ℕ → Type 0) (counts : List ℕ) (x : Element) → IsRoadmap map → AreCounts map P counts → IsElement map x → (0 < slice_index counts (place_of map x)) ↔ IsMet map P x
met_by_counts map P counts x limits are has =
    let count : IsCount map P x (slice_index counts (place_of map x)) = are.exact (place_of map x) (place_below map x limits has) in (
      λ above. (_, above, count),
      λ (k, above, other). subst (λ (n : ℕ). 0 < n) (count_unique map P x k _ other count) above,
    )

-- both ends of an edge are nodes
ends_are_nodes : (road : Road) (i a b : ℕ) → IsRoad road → HasEnds road i a b → (a < node_count road) × (b < node_count road)
ends_are_nodes road i a b is ends = let order = is.ends i a b ends in (omega arith, order.1)

-- an edge is barred exactly where the counts and the flags of the nodes say so
pub edge_barred_by_counts : (map : Roadmap) (P : ℕ → Type 0) (counts : List ℕ) (nodes : List Bool) (i : ℕ) → IsRoadmap map → AreCounts map P counts → AreFlags (node_count map.road) (IsNodeBarred map P) nodes → i < edge_count map.road → IsEdgeMet map counts nodes i ↔ IsEdgeBarred map P i
edge_barred_by_counts map P counts nodes i limits are flags below =
    let met = met_by_counts map P counts (Edge i) limits are below in
    let node = λ (a : ℕ) (h : a < node_count map.road). flags.exact a h in (
      λ s. elim s [
        | inl above ↦ inl (met.0 above)
        | inr (a, b, ends, e) ↦
            let within = ends_are_nodes map.road i a b limits.road ends in
            inr (a, b, ends, elim e [ inl p ↦ inl ((node a within.0).0 p) | inr p ↦ inr ((node b within.1).0 p) ])
      ],
      λ s. elim s [
        | inl is ↦ inl (met.1 is)
        | inr (a, b, ends, e) ↦
            let within = ends_are_nodes map.road i a b limits.road ends in
            inr (a, b, ends, elim e [ inl p ↦ inl ((node a within.0).1 p) | inr p ↦ inr ((node b within.1).1 p) ])
      ],
    )

-- the raised flags of a snapshot are as many as there are barred elements
pub totals_by_flags : (map : Roadmap) (snap : Snapshot) (n e : ℕ) → IsSnapOf map snap → IsTally (Has snap.nodes) (range_with_len 0 (length snap.nodes)) n → IsTally (Has snap.edges) (range_with_len 0 (length snap.edges)) e → AreTotals map (Has snap.occupied) n e
totals_by_flags map snap n e of nodes edges = record {
  nodes = tally_same_in_range (Has snap.nodes) (IsNodeBarred map (Has snap.occupied)) (node_count map.road) 0 n (λ i _ below. of.nodes.exact i (omega arith)) (subst (λ (m : ℕ). IsTally (Has snap.nodes) (range_with_len 0 m) n) of.nodes.one_each nodes);
  edges = tally_same_in_range (Has snap.edges) (IsEdgeBarred map (Has snap.occupied)) (edge_count map.road) 0 e (λ i _ below. of.edges.exact i (omega arith)) (subst (λ (m : ℕ). IsTally (Has snap.edges) (range_with_len 0 m) e) of.edges.one_each edges);
}

-- the flags of a snapshot that are made by the counts
pub snap_by_counts : (map : Roadmap) (snap : Snapshot) (counts : List ℕ) → IsRoadmap map → length snap.occupied ≡ cell_count map.grid → AreCounts map (Has snap.occupied) counts → AreFlags (node_count map.road) (λ i. 0 < slice_index counts i) snap.nodes → AreFlags (edge_count map.road) (IsEdgeMet map counts snap.nodes) snap.edges → IsSnapOf map snap
snap_by_counts map snap counts limits cells are nodes edges =
    let occupied = Has snap.occupied in
    let barred_nodes : AreFlags (node_count map.road) (IsNodeBarred map occupied) snap.nodes = record {
      one_each = nodes.one_each;
      exact = λ i below.
          let met = met_by_counts map occupied counts (Node i) limits are below in
          let flag = nodes.exact i below in
          (λ has. met.0 (flag.0 has), λ is. flag.1 (met.1 is));
    } in
    record {
      cells = cells;
      nodes = barred_nodes;
      edges = record {
        one_each = edges.one_each;
        exact = λ i below.
            let met = edge_barred_by_counts map occupied counts snap.nodes i limits are barred_nodes below in
            let flag = edges.exact i below in
            (λ has. met.0 (flag.0 has), λ is. flag.1 (met.1 is));
      };
    }
