-- Weights are small, and labels with grounds that agree are the least lengths.
use Rattle.std.proofs.Common.{◌≡◌, length, drop, sym, subst, List, Option, ℕ, arith, rules}
use Rattle.drm_cellmap.specs.Certificates.{Agrees}
use Rattle.drm_route.specs.Labels.{HasGrounds}
use Rattle.drm_route.proofs.BestLemmas.{settled_are_best}
use Rattle.drm_route.proofs.WeightLemmas.{weights_on, road_on, take_front}
use Rattle.drm_route.proofs.labels.settled.Goals as goal

pub settle-requires-clause-ready : goal.settle-requires-clause-ready
settle-requires-clause-ready c = record { weights = weights_on c.args.road.now c.args.snap.now c.requires.snapshot; one_each = search rules; small = search rules }

pub returns-clause-grounds : goal.returns-clause-grounds
returns-clause-grounds c =
    let new = c.settle.new.labels in
    let size : c.in_ok-labels.labels.len ≡ length new = omega (arith, c.settle.ensures.one_each, c.deref_mut.ensures.len) in
    let grounds : HasGrounds c.args.road.now c.args.snap.now c.args.from new = c.settle.ensures.grounds c.args.from (rw c.deref_mut.ensures.value (c.in_ok-labels.ensures.grounds c.args.snap.now)) in
    rw (take_front new (drop (length new) c.in_ok-labels.labels.items) c.in_ok-labels.labels.len size) grounds

pub returns-clause-agrees : goal.returns-clause-agrees
returns-clause-agrees c =
    let new = c.settle.new.labels in
    let size : c.in_ok-labels.labels.len ≡ length new = omega (arith, c.settle.ensures.one_each, c.deref_mut.ensures.len) in
    subst (λ (labels : List (Option ℕ)). Agrees c.args.road.now c.args.snap.now labels) (sym (take_front new (drop (length new) c.in_ok-labels.labels.items) c.in_ok-labels.labels.len size)) c.settle.ensures.agrees

pub returns-clause-best : goal.returns-clause-best
returns-clause-best c =
    settled_are_best c.args.road.now c.args.snap.now c.requires.snapshot (road_on c.args.road.now c.args.snap.now c.requires.snapshot) c.args.from _ c.requires.start (returns-clause-grounds c) (returns-clause-agrees c)

pub returns-clause-limits : goal.returns-clause-limits
returns-clause-limits c = road_on c.args.road.now c.args.snap.now c.requires.snapshot
