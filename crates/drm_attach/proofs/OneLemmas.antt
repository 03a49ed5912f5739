-- An attachment is determined: the candidates are, why a node is refused is, and so is the first that is not refused.
use Rattle.std.proofs.Common.{◌≡◌, ◌⊎◌, inl, inr, ℕ, ◌<◌, ℤ, List, [], ◌∷◌, ◌++◌, length, refl, ap, sym, ◌∙◌, subst, arith}
use Rattle.std.specs.Prelude.{⊤}
use Rattle.std.proofs.lemmas.List.{append-nil}
use Rattle.std.proofs.lemmas.List.Elements.{All-head, All-tail, All-contains}
use Rattle.drm_grid.proofs.SetLemmas.{least_is_one}
use Rattle.drm_talk.specs.declared.Why.{Why}
use Rattle.drm_talk.specs.declared.Why.TheVariants.{Barred, Cell}
use Rattle.drm_talk.specs.declared.Tried.{Tried}
use Rattle.drm_talk.specs.declared.End.{End}
use Rattle.drm_road.specs.Road.{Road}
use Rattle.drm_cellmap.specs.Roadmap.{Roadmap}
use Rattle.drm_cellmap.specs.Snapshot.{Snapshot}
use Rattle.drm_attach.specs.declared.ends.Way.{Way}
use Rattle.drm_attach.specs.declared.ends.Attached.TheVariants.{Found, Nothing}
use Rattle.drm_attach.specs.Candidates.{gap, ComesBefore, AreFirst, AreCandidates}
use Rattle.drm_attach.specs.Attached.{MeetsAt, Refuses, IsFree, AreRefused, nodes_tried, IsEnd, AreAllRefused}
use Rattle.drm_attach.specs.Laws.{AttachmentsAreDetermined}
use Rattle.drm_attach.proofs.OrderLemmas.{IsStrictOrder, Keeps, kept_are_one}

-- ---- the candidates

one_comes_first : (road : Road) (at : List ℤ) → IsStrictOrder (ComesBefore road at)
one_comes_first road at = record {
  one_way = λ i j. never_both (gap road at i) (gap road at j) i j;
  total = λ i j. which (gap road at i) (gap road at j) i j;
}
  where
    never_both : (g h i j : ℕ) → ((g < h) ⊎ ((g ≡ h) × (i < j))) → ((h < g) ⊎ ((h ≡ g) × (j < i))) → ⊥
    never_both g h i j before after = grind arith

    which : (g h i j : ℕ) → ((g < h) ⊎ ((g ≡ h) × (i < j))) ⊎ ((i ≡ j) ⊎ ((h < g) ⊎ ((h ≡ g) × (j < i))))
    which g h i j = grind arith

first_keep : (road : Road) (at : List ℤ) (count : ℕ) (nodes others : List ℕ) → AreFirst road at count nodes → AreFirst road at count others → Keeps (ComesBefore road at) nodes others
first_keep road at count nodes others first second node has =
    elim (second.first node (All-contains (λ (n : ℕ). n < count) nodes node first.in_range has)) [
      | inl there ↦ inl there
      | inr (full, behind) ↦ let few = first.few in inr (omega arith, behind)
    ]

-- the candidates are one list
candidates_are_one : (road : Road) (at : List ℤ) (nodes others : List ℕ) → AreCandidates road at nodes → AreCandidates road at others → nodes ≡ others
candidates_are_one road at nodes others first second =
    kept_are_one (ComesBefore road at) (one_comes_first road at) nodes others first.in_order second.in_order
    (first_keep road at (length road.nodes) nodes others first second) (first_keep road at (length road.nodes) others nodes second first)

-- ---- why a node is refused

why_is_one : (chart : Roadmap) (snap : Snapshot) (at : List ℤ) (way : Way) (node : ℕ) (why other : Why) → Refuses chart snap at way node why → Refuses chart snap at way node other → why ≡ other
why_is_one chart snap at way node Barred Barred first second = refl
why_is_one chart snap at way node Barred (Cell d) barred (open_node, _) = absurd (open_node barred)
why_is_one chart snap at way node (Cell c) Barred (open_node, _) barred = absurd (open_node barred)
why_is_one chart snap at way node (Cell c) (Cell d) (_, first) (_, second) = ap (λ (n : ℕ). Cell n) (least_is_one (MeetsAt chart snap at way node) c d first second)

-- a node that is not refused is not refused for any reason
free_is_not_refused : (chart : Roadmap) (snap : Snapshot) (at : List ℤ) (way : Way) (node : ℕ) (why : Why) → IsFree chart snap at way node → Refuses chart snap at way node why → ⊥
free_is_not_refused chart snap at way node Barred free barred = free.open_node barred
free_is_not_refused chart snap at way node (Cell c) free (_, least) = free.clear c least.0

-- ---- the attempts

-- of the nodes that were not tried, the first is not refused, where there is one
abbrev StopsAt : Roadmap → Snapshot → List ℤ → Way → List ℕ → Type 0
StopsAt chart snap at way [] = ⊤
StopsAt chart snap at way (node ∷ rest) = IsFree chart snap at way node

-- a node that was refused is none to stop at
refused_goes_on : (chart : Roadmap) (snap : Snapshot) (at : List ℤ) (way : Way) (t : Tried) (ts : List Tried) (rest : List ℕ) → AreRefused chart snap at way (t ∷ ts) → StopsAt chart snap at way (nodes_tried (t ∷ ts) ++ rest) → ⊥
refused_goes_on chart snap at way t ts rest refused free =
    free_is_not_refused chart snap at way t.node t.why free (All-head (λ (x : Tried). Refuses chart snap at way x.node x.why) t ts refused)

-- two records of the same node and the same reason
same_tried : (t u : Tried) → t.node ≡ u.node → t.why ≡ u.why → t ≡ u
same_tried t u node why =
    let by_node : ℕ → Tried = λ n. record { node = n; why = t.why } in
    let by_why : Why → Tried = λ w. record { node = u.node; why = w } in
    ap by_node node ∙ ap by_why why

attempts_are_one : (chart : Roadmap) (snap : Snapshot) (at : List ℤ) (way : Way) (tried others : List Tried) (rest more : List ℕ)
    → nodes_tried tried ++ rest ≡ nodes_tried others ++ more → AreRefused chart snap at way tried → AreRefused chart snap at way others
    → StopsAt chart snap at way rest → StopsAt chart snap at way more → (tried ≡ others) × (rest ≡ more)
attempts_are_one chart snap at way [] [] rest more same refused refused_too stops stops_too = (refl, same)
attempts_are_one chart snap at way [] (u ∷ us) rest more same refused refused_too stops stops_too = absurd (refused_goes_on chart snap at way u us more refused_too (subst (StopsAt chart snap at way) same stops))
attempts_are_one chart snap at way (t ∷ ts) [] rest more same refused refused_too stops stops_too = absurd (refused_goes_on chart snap at way t ts rest refused (subst (StopsAt chart snap at way) (sym same) stops_too))
attempts_are_one chart snap at way (t ∷ ts) (u ∷ us) rest more same refused refused_too stops stops_too =
    let Told = λ (x : Tried). Refuses chart snap at way x.node x.why in
    let node : t.node ≡ u.node = cc in
    let nodes : nodes_tried ts ++ rest ≡ nodes_tried us ++ more = cc in
    let why : t.why ≡ u.why = why_is_one chart snap at way t.node t.why u.why (All-head Told t ts refused) (subst (λ (n : ℕ). Refuses chart snap at way n u.why) (sym node) (All-head Told u us refused_too)) in
    let (later, left) = attempts_are_one chart snap at way ts us rest more nodes (All-tail Told t ts refused) (All-tail Told u us refused_too) stops stops_too in
    let here = same_tried t u node why in
    (cc, left)

-- ---- attachments

-- what was found is one
ends_are_one : (chart : Roadmap) (snap : Snapshot) (at : List ℤ) (way : Way) (end other : End) → IsEnd chart snap at way end → IsEnd chart snap at way other → end ≡ other
ends_are_one chart snap at way end other is too =
    let nodes = candidates_are_one chart.road at is.nodes too.nodes is.candidates too.candidates in
    let (tried, left) = attempts_are_one chart snap at way end.tried other.tried (end.node ∷ is.rest) (other.node ∷ too.rest) (sym is.in_turn ∙ nodes ∙ too.in_turn) is.refused too.refused is.free too.free in
    let by_node : ℕ → End = λ n. record { node = n; tried = end.tried } in
    let by_tried : List Tried → End = λ ts. record { node = other.node; tried = ts } in
    ap by_node (cc left) ∙ ap by_tried tried

-- where all candidates are refused, none is found
none_is_found : (chart : Roadmap) (snap : Snapshot) (at : List ℤ) (way : Way) (end : End) (tried : List Tried) → IsEnd chart snap at way end → AreAllRefused chart snap at way tried → ⊥
none_is_found chart snap at way end tried is none =
    let nodes = candidates_are_one chart.road at is.nodes (nodes_tried tried) is.candidates none.candidates in
    let (_, left) = attempts_are_one chart snap at way end.tried tried (end.node ∷ is.rest) [] (sym is.in_turn ∙ nodes ∙ sym (append-nil (nodes_tried tried))) is.refused none.refused is.free tt in
    absurd cc

-- what was refused is one
refused_are_one : (chart : Roadmap) (snap : Snapshot) (at : List ℤ) (way : Way) (tried others : List Tried) → AreAllRefused chart snap at way tried → AreAllRefused chart snap at way others → tried ≡ others
refused_are_one chart snap at way tried others is too =
    let nodes = candidates_are_one chart.road at (nodes_tried tried) (nodes_tried others) is.candidates too.candidates in
    (attempts_are_one chart snap at way tried others [] [] (ap (λ (xs : List ℕ). xs ++ []) nodes) is.refused too.refused tt tt).0

pub attached_is_one : AttachmentsAreDetermined
attached_is_one chart snap at way (Found end) (Found other) is too = ap (λ (e : End). Found e) (ends_are_one chart snap at way end other is too)
attached_is_one chart snap at way (Found end) (Nothing tried) is none = absurd (none_is_found chart snap at way end tried is none)
attached_is_one chart snap at way (Nothing tried) (Found end) none is = absurd (none_is_found chart snap at way end tried is none)
attached_is_one chart snap at way (Nothing tried) (Nothing others) is too = ap (λ (ts : List Tried). Nothing ts) (refused_are_one chart snap at way tried others is too)
