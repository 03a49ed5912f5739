-- An edge whose labels are not near, or all edges.
use Rattle.std.proofs.Common.{rules, ◌≡◌, ◌<◌, ◌≤◌, false, length, refl, arith}
use Rattle.drm_grid.specs.CellSet.{Has}
use Rattle.drm_cert.proofs.EdgeLemmas.{edge_fails}
use Rattle.drm_cert.proofs.LabelLemmas.{EndsAreNear, agree_by_edges, near_where_agree}
use Rattle.drm_cert.proofs.labels.labels_agree.Goals as goal

pub returns-then-not-edge_agrees : goal.returns-then-not-edge_agrees
returns-then-not-edge_agrees c =
    let road = c.args.road.now in
    let snap = c.args.snap.now in
    let labels = c.args.labels.now in
    let below : c.loop-i.i < length road.edges = omega (arith, c.loop-i-test.true, c.edges-i-end.ensures.count) in
    let fails : c.edge_agrees.result ≡ false = search rules in
    let open_edge : c.edge_barred.result ≡ false = search rules in
    let clear : Has snap.edges c.loop-i.i → ⊥ = λ h. let is = c.edge_barred.ensures.1 h in absurd cc in (
      λ t. absurd cc,
      λ agrees. absurd (edge_fails road c.loop-i.i (EndsAreNear road labels) c.edge_agrees.result below c.edge_agrees.ensures fails (λ a b there. near_where_agree road snap labels c.edges-i-end.ensures.limits c.requires.one_each agrees c.loop-i.i a b there clear)),
    )

pub returns : goal.returns
returns c =
    let done : length c.args.road.now.edges ≤ c.loop-i.i = let test = c.loop-i-test.false in omega (arith, c.edges-i-end.ensures.count) in
    (λ _. agree_by_edges c.args.road.now c.args.snap.now c.args.labels.now c.edges-i-end.ensures.limits c.requires.one_each (λ i a b below there clear. c.loop-i.invariant i a b (omega arith) there clear), λ _. refl)
