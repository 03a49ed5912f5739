-- The edge in the middle comes before the one that is sought, is it, or comes behind it.
use Rattle.std.proofs.Common.{◌≡◌, ◌<◌, ◌+◌, ◌-◌, ◌/◌, ℕ, arith}
use Rattle.drm_road.specs.Pairs.{Precedes}
use Rattle.drm_cellmap.specs.Elements.{HasEnds}
use Rattle.drm_cert.proofs.EdgeLemmas.{found_edge, edge_is_past, edge_is_before}
use Rattle.drm_cert.proofs.joined.edge_between.Goals as goal

pub loop-low-preserved-then-precedes : goal.loop-low-preserved-then-precedes
loop-low-preserved-then-precedes c =
    let middle : ℕ = c.loop-low.low + (c.loop-low.high - c.loop-low.low) / 2 in
    let found = c.edge-edge.result in (
      c.loop-low.invariant.0,
      λ edge there.
          let past : middle < edge = edge_is_past c.args.road.now c.edge-edge.ensures.limits middle found.0 found.1 c.args.a c.args.b c.edge-edge.ensures.place (c.precedes.ensures.0 c.if-precedes.true) edge there in
          (omega arith, (c.loop-low.invariant.1 edge there).1),
    )

pub returns-then-leads-clause-exact : goal.returns-then-leads-clause-exact
returns-then-leads-clause-exact c =
    let middle : ℕ = c.loop-low.low + (c.loop-low.high - c.loop-low.low) / 2 in
    let ends = c.leads.ensures.0 c.if-leads.true in
    let place : HasEnds c.args.road.now middle c.edge-edge.result.0 c.edge-edge.result.1 = c.edge-edge.ensures.place in
    let there : HasEnds c.args.road.now middle c.args.a c.args.b = rw (ends.0, ends.1) at place in
    found_edge c.args.road.now c.edge-edge.ensures.limits middle c.args.a c.args.b there

pub loop-low-preserved : goal.loop-low-preserved
loop-low-preserved c =
    let middle : ℕ = c.loop-low.low + (c.loop-low.high - c.loop-low.low) / 2 in
    let found = c.edge-edge.result in
    let not_before : Precedes (found.0, found.1) (c.args.a, c.args.b) → ⊥ = λ h. let is = c.precedes.ensures.1 h in let no = c.if-precedes.false in absurd cc in
    let differs : (found.0 ≡ c.args.a) × (found.1 ≡ c.args.b) → ⊥ = λ h. let is = c.leads.ensures.1 h in let no = c.if-leads.false in absurd cc in (
      omega arith,
      λ edge there. ((c.loop-low.invariant.1 edge there).0, edge_is_before c.args.road.now c.edge-edge.ensures.limits middle found.0 found.1 c.args.a c.args.b c.edge-edge.ensures.place not_before differs edge there),
    )
