-- The attachments are not barred, and the route has a leg between each two neighbours.
use Rattle.std.proofs.Common.{sym, subst}
use Rattle.drm_attach.specs.declared.ends.Way.TheVariants.{Out, Home}
use Rattle.drm_attach.specs.Attached.{IsEnd}
use Rattle.drm_cellmap.specs.Certificates.{PathCert}
use Rattle.drm_plan.specs.Legs.{HasLegs, AreClear, IsFirstMet}
use Rattle.drm_plan.proofs.AnswerLemmas.{attached_is_open}
use Rattle.drm_plan.proofs.LegLemmas.{route_has_legs}
use Rattle.drm_plan.proofs.answer.plan.Goals as goal

pub search-requires-clause-start : goal.search-requires-clause-start
search-requires-clause-start c =
    let end : IsEnd c.args.map.now c.args.snap.now c.args.start.now Out c.in-Found.end = rw c.in-Found.is at c.in_ok-end.ensures.exact in
    rw c.road-road.ensures.exact (attached_is_open c.args.map.now c.args.snap.now c.args.start.now Out c.in-Found.end end)

pub search-requires-clause-goal : goal.search-requires-clause-goal
search-requires-clause-goal c =
    let end : IsEnd c.args.map.now c.args.snap.now c.args.goal.now Home c.in-Found-2.end = rw c.in-Found-2.is at c.in_ok-end-2.ensures.exact in
    rw c.road-road.ensures.exact (attached_is_open c.args.map.now c.args.snap.now c.args.goal.now Home c.in-Found-2.end end)

pub first_met-requires-clause-legs : goal.first_met-requires-clause-legs
first_met-requires-clause-legs c =
    let cert = rw (c.in-Path.is, c.road-road.ensures.exact) at c.in_ok-side.ensures.certified in
    let path : PathCert c.args.map.now.road c.args.snap.now c.in-Found.end.node c.in-Found-2.end.node c.in-Path.nodes c.in-Path.length c.in-Path.labels = cert in
    subst (HasLegs c.args.map.now.road c.args.snap.now) (sym c.as_slice.ensures)
    (route_has_legs c.args.map.now.road c.args.snap.now c.in-Path.nodes c.in-Found.end.node c.in-Found-2.end.node c.in-Path.length path.route)

pub returns-in-Cut-clause-plan : goal.returns-in-Cut-clause-plan
returns-in-Cut-clause-plan c =
    let first : IsEnd c.args.map.now c.args.snap.now c.args.start.now Out c.in-Found.end = rw c.in-Found.is at c.in_ok-end.ensures.exact in
    let last : IsEnd c.args.map.now c.args.snap.now c.args.goal.now Home c.in-Found-2.end = rw c.in-Found-2.is at c.in_ok-end-2.ensures.exact in
    (record { out = first; home = last }, rw (c.in-Cut.is, c.road-road.ensures.exact) at c.in_ok-side.ensures.exact)

pub returns-clause-plan : goal.returns-clause-plan
returns-clause-plan c =
    let first : IsEnd c.args.map.now c.args.snap.now c.args.start.now Out c.in-Found.end = rw c.in-Found.is at c.in_ok-end.ensures.exact in
    let last : IsEnd c.args.map.now c.args.snap.now c.args.goal.now Home c.in-Found-2.end = rw c.in-Found-2.is at c.in_ok-end-2.ensures.exact in
    let clear : AreClear c.args.map.now c.args.snap.now c.in-Path.nodes = rw (c.in-None.is, c.as_slice.ensures) at c.first_met.ensures in
    (record { out = first; home = last }, rw (c.in-Path.is, c.road-road.ensures.exact) at c.in_ok-side.ensures.exact, clear)

pub returns-in-Some-clause-plan : goal.returns-in-Some-clause-plan
returns-in-Some-clause-plan c =
    let first : IsEnd c.args.map.now c.args.snap.now c.args.start.now Out c.in-Found.end = rw c.in-Found.is at c.in_ok-end.ensures.exact in
    let last : IsEnd c.args.map.now c.args.snap.now c.args.goal.now Home c.in-Found-2.end = rw c.in-Found-2.is at c.in_ok-end-2.ensures.exact in
    let met : IsFirstMet c.args.map.now c.args.snap.now c.in-Path.nodes c.in-Some.met.edge c.in-Some.met.cell = rw (c.in-Some.is, c.as_slice.ensures) at c.first_met.ensures in (
      record { out = first; home = last },
      record {
        l = c.in-Path.length;
        nodes = c.in-Path.nodes;
        labels = c.in-Path.labels;
        found = rw (c.in-Path.is, c.road-road.ensures.exact) at c.in_ok-side.ensures.exact;
        met = met;
      },
    )
