-- The labels are the least lengths, so the labelled nodes are those that routes reach; and what is found is certified.
use Rattle.std.proofs.Common.{◌≡◌, ◌↔◌, ℕ, List, Option, Some, None, slice_get, sym, subst}
use Rattle.std.specs.Prelude.{Contains}
use Rattle.drm_cellmap.specs.Certificates.{IsLabel, Agrees}
use Rattle.drm_route.specs.declared.shortest.Found.TheVariants.{Path, Cut}
use Rattle.drm_route.specs.Trace.{IsTraced}
use Rattle.drm_route.specs.Search.{HasLabel, IsFound}
use Rattle.drm_route.proofs.FoundLemmas.{side_is_found}
use Rattle.drm_route.proofs.LawLemmas.{found_certifies}
use Rattle.drm_route.proofs.shortest.search.Goals as goal

pub path_back-requires-clause-agrees : goal.path_back-requires-clause-agrees
path_back-requires-clause-agrees c = subst (λ (labels : List (Option ℕ)). Agrees c.args.road.now c.args.snap.now labels) (sym c.deref-in-Some.ensures.value) c.in_ok-labels.ensures.agrees

pub returns-in_ok-nodes-in-Some-clause-certified : goal.returns-in_ok-nodes-in-Some-clause-certified
returns-in_ok-nodes-in-Some-clause-certified c =
    let told = c.label_of.ensures in
    let some = c.in-Some.is in
    let value = c.deref.ensures.value in
    let end : IsLabel c.in_ok-labels.labels.items c.args.to c.in-Some.length = cc in
    let traced : IsTraced c.args.road.now c.args.snap.now c.in_ok-labels.labels.items c.args.from c.args.to c.in_ok-nodes-in-Some.nodes.items =
    subst (λ (labels : List (Option ℕ)). IsTraced c.args.road.now c.args.snap.now labels c.args.from c.args.to c.in_ok-nodes-in-Some.nodes.items) c.deref-in-Some.ensures.value c.in_ok-nodes-in-Some.ensures in
    rw (c.from_vec.ensures, c.from_vec-in-Some.ensures) (found_certifies c.args.road.now c.args.snap.now c.args.from c.args.to (Path c.in_ok-nodes-in-Some.nodes.items c.in-Some.length c.in_ok-labels.labels.items) c.requires.snapshot c.requires.start (c.in_ok-labels.ensures.best, end, traced))

pub returns-in_ok-labelled_nodes-in-None-clause-exact : goal.returns-in_ok-labelled_nodes-in-None-clause-exact
returns-in_ok-labelled_nodes-in-None-clause-exact c =
    let told = c.label_of.ensures in
    let is_none = c.in-None.is in
    let value = c.deref.ensures.value in
    let none : slice_get c.in_ok-labels.labels.items c.args.to ≡ Some None = cc in
    let side = c.in_ok-labelled_nodes-in-None.field-0.items in
    let exact : (v : ℕ) → Contains side v ↔ HasLabel c.in_ok-labels.labels.items v =
    subst (λ (labels : List (Option ℕ)). (v : ℕ) → Contains side v ↔ HasLabel labels v) c.deref-in-None.ensures.value c.in_ok-labelled_nodes-in-None.ensures.exact in
    subst (λ (nodes : List ℕ). IsFound c.args.road.now c.args.snap.now c.args.from c.args.to (Cut nodes)) (sym c.from_vec-in-None.ensures)
    (side_is_found c.args.road.now c.args.snap.now c.args.from c.args.to c.in_ok-labels.labels.items side c.in_ok-labels.ensures.grounds c.in_ok-labels.ensures.agrees c.in_ok-labels.ensures.best none c.in_ok-labelled_nodes-in-None.ensures.increasing exact)

pub returns-in_ok-labelled_nodes-in-None-clause-certified : goal.returns-in_ok-labelled_nodes-in-None-clause-certified
returns-in_ok-labelled_nodes-in-None-clause-certified c =
    found_certifies c.args.road.now c.args.snap.now c.args.from c.args.to (Cut c.from_vec-in-None.result) c.requires.snapshot c.requires.start (returns-in_ok-labelled_nodes-in-None-clause-exact c)
