-- The last round changed nothing.
use Rattle.std.proofs.Common.{subst, Bool}
use Rattle.drm_cellmap.specs.Elements.{edge_count}
use Rattle.drm_route.specs.Rounds.{IsRound}
use Rattle.drm_route.proofs.RoundLemmas.{unchanged_agrees}
use Rattle.drm_route.proofs.labels.settle.Goals as goal

pub returns-clause-agrees : goal.returns-clause-agrees
returns-clause-agrees c =
    unchanged_agrees c.args.road.now c.args.snap.now c.loop.labels c.relax.new.labels
    (subst (λ (changed : Bool). IsRound c.args.road.now c.args.snap.now c.loop.labels (edge_count c.args.road.now) c.relax.new.labels changed) c.loop-test.false c.relax.ensures)
