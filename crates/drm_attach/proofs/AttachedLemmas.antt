-- The candidates that were refused so far.
use Rattle.std.proofs.Common.{◌≡◌, ℕ, ◌+◌, ◌<◌, ℤ, List, [], ◌∷◌, ◌++◌, length, take, drop, get_or, refl, sym, ◌∙◌, ap, append_assoc, arith}
use Rattle.std.proofs.lemmas.List.{take_more, take-append-drop, map-append}
use Rattle.std.proofs.lemmas.List.Elements.{All-push}
use Rattle.drm_talk.specs.declared.Why.{Why}
use Rattle.drm_talk.specs.declared.Tried.{Tried}
use Rattle.drm_cellmap.specs.Roadmap.{Roadmap}
use Rattle.drm_cellmap.specs.Snapshot.{Snapshot}
use Rattle.drm_attach.specs.declared.ends.Way.{Way}
use Rattle.drm_attach.specs.Attached.{Refuses, AreRefused, nodes_tried}

-- the first i nodes were tried and are refused
pub record Tries (chart : Roadmap) (snap : Snapshot) (at : List ℤ) (way : Way) (nodes : List ℕ) (i : ℕ) (tried : List Tried) : Type 0 where
  pub in_turn : nodes_tried tried ≡ take i nodes
  pub refused : AreRefused chart snap at way tried

-- no node was tried
pub tries_none : (chart : Roadmap) (snap : Snapshot) (at : List ℤ) (way : Way) (nodes : List ℕ) → Tries chart snap at way nodes 0 []
tries_none chart snap at way nodes = record { in_turn = refl; refused = λ k d below. absurd (omega arith) }

-- one more node is refused
pub tries_more : (chart : Roadmap) (snap : Snapshot) (at : List ℤ) (way : Way) (nodes : List ℕ) (i : ℕ) (tried : List Tried) (why : Why)
    → Tries chart snap at way nodes i tried → i < length nodes → Refuses chart snap at way (get_or nodes i 0) why → Tries chart snap at way nodes (i + 1) (tried ++ record { node = get_or nodes i 0; why = why } ∷ [])
tries_more chart snap at way nodes i tried why h below is =
    let last : Tried = record { node = get_or nodes i 0; why = why } in
    record {
      in_turn = map-append (λ (t : Tried). t.node) tried (last ∷ []) ∙ ap (λ (xs : List ℕ). xs ++ get_or nodes i 0 ∷ []) h.in_turn ∙ sym (take_more nodes i 0 below);
      refused = All-push (λ (t : Tried). Refuses chart snap at way t.node t.why) tried last h.refused is;
    }

-- the nodes are those that were tried, the one at hand, and the rest
pub tried_before : (chart : Roadmap) (snap : Snapshot) (at : List ℤ) (way : Way) (nodes : List ℕ) (i : ℕ) (tried : List Tried)
    → Tries chart snap at way nodes i tried → i < length nodes → nodes ≡ nodes_tried tried ++ get_or nodes i 0 ∷ drop (i + 1) nodes
tried_before chart snap at way nodes i tried h below =
    sym (take-append-drop (i + 1) nodes)
    ∙ ap (λ (xs : List ℕ). xs ++ drop (i + 1) nodes) (take_more nodes i 0 below)
    ∙ append_assoc (take i nodes) (get_or nodes i 0 ∷ []) (drop (i + 1) nodes)
    ∙ ap (λ (xs : List ℕ). xs ++ get_or nodes i 0 ∷ drop (i + 1) nodes) (sym h.in_turn)
