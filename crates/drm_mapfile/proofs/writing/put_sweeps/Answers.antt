-- A sweep has fewer cells than its count may say.
use Rattle.drm_mapfile.proofs.WritingLemmas.{sweep_short}
use Rattle.drm_mapfile.proofs.writing.put_sweeps.Goals as goal

pub put_sweep-requires : goal.put_sweep-requires
put_sweep-requires c = sweep_short c.args.map.now.grid c.stored.result.now c.road-road.ensures.limits.grid c.stored.ensures.sweep
