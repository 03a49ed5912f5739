-- An edge that leaves the side, or all edges.
use Rattle.std.proofs.Common.{rules, ◌≡◌, ◌<◌, ◌≤◌, false, length, refl, arith}
use Rattle.drm_grid.specs.CellSet.{Has}
use Rattle.drm_cert.specs.Near.{AreAlike}
use Rattle.drm_cert.proofs.EdgeLemmas.{edge_fails}
use Rattle.drm_cert.proofs.CutLemmas.{closed_by_edges, alike_where_closed}
use Rattle.drm_cert.proofs.cut.is_closed.Goals as goal

pub returns-then-not-edge_stays : goal.returns-then-not-edge_stays
returns-then-not-edge_stays c =
    let road = c.args.road.now in
    let snap = c.args.snap.now in
    let side = c.args.side.now in
    let below : c.loop-i.i < length road.edges = omega (arith, c.loop-i-test.true, c.edges-i-end.ensures.count) in
    let fails : c.edge_stays.result ≡ false = search rules in
    let open_edge : c.edge_barred.result ≡ false = search rules in
    let clear : Has snap.edges c.loop-i.i → ⊥ = λ h. let is = c.edge_barred.ensures.1 h in absurd cc in (
      λ t. absurd cc,
      λ closed. absurd (edge_fails road c.loop-i.i (AreAlike side) c.edge_stays.result below c.edge_stays.ensures fails (λ a b there. alike_where_closed road snap side closed c.loop-i.i a b there clear)),
    )

pub returns : goal.returns
returns c =
    let done : length c.args.road.now.edges ≤ c.loop-i.i = let test = c.loop-i-test.false in omega (arith, c.edges-i-end.ensures.count) in
    (λ _. closed_by_edges c.args.road.now c.args.snap.now c.args.side.now (λ i a b below there clear. c.loop-i.invariant i a b (omega arith) there clear), λ _. refl)
