-- The edge stays between `low` and `high`, since edges rise.
use Rattle.std.proofs.Common.{ℕ, ◌+◌, ◌-◌, ◌/◌, ◌<◌, sym, subst, arith}
use Rattle.drm_cellmap.specs.Elements.{HasEnds}
use Rattle.drm_plan.proofs.LegLemmas.{IsBetween, between_first, between_low, between_high}
use Rattle.drm_plan.proofs.legs.edge_between.Goals as goal

pub loop-high-init : goal.loop-high-init
loop-high-init c =
    let there = c.requires.there in
    subst (λ (n : ℕ). IsBetween c.args.road.now c.args.a c.args.b 0 n) (sym c.edges-high.ensures.count) (between_first c.args.road.now c.args.a c.args.b there.0 there.1)

pub overflow_sub-high : goal.overflow_sub-high
overflow_sub-high c = let some = c.loop-high.invariant.some in omega arith

pub edge-requires : goal.edge-requires
edge-requires c =
    let most = c.loop-high.invariant.most in
    let test = c.loop-high-test.true in
    omega arith

pub loop-high-preserved-then-precedes : goal.loop-high-preserved-then-precedes
loop-high-preserved-then-precedes c =
    let low = c.loop-high.low in
    let high = c.loop-high.high in
    let test = c.loop-high-test.true in
    let above : low < low + (high - low) / 2 = omega arith in
    let below : low + (high - low) / 2 < high = omega arith in
    let place = c.edge.ensures.place in
    let view = c.lesser.view_is in
    let there : HasEnds c.args.road.now (low + (high - low) / 2) c.lesser.inside.a c.lesser.inside.b = cc in
    between_low c.args.road.now c.args.a c.args.b low (low + (high - low) / 2) high c.lesser.inside.a c.lesser.inside.b c.requires.limits c.loop-high.invariant above below there (c.precedes.ensures.0 c.if-precedes.true)

pub loop-high-preserved : goal.loop-high-preserved
loop-high-preserved c =
    let low = c.loop-high.low in
    let high = c.loop-high.high in
    let test = c.loop-high-test.true in
    let above : low < low + (high - low) / 2 = omega arith in
    let below : low + (high - low) / 2 < high = omega arith in
    let place = c.edge.ensures.place in
    let view = c.lesser.view_is in
    let there : HasEnds c.args.road.now (low + (high - low) / 2) c.lesser.inside.a c.lesser.inside.b = cc in
    between_high c.args.road.now c.args.a c.args.b low (low + (high - low) / 2) high c.lesser.inside.a c.lesser.inside.b c.requires.limits c.loop-high.invariant above below there
    (λ h. let is = c.precedes.ensures.1 h in let no = c.if-precedes.false in absurd cc)

pub returns : goal.returns
returns c = λ edge there.
    let between = c.loop-high.invariant.holds edge there in
    let test = c.loop-high-test.false in
    omega (arith, between.0, between.1)
