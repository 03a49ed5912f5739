use Rattle.std.proofs.Common.{◌≡◌, ◌<◌, pos, arith, rules, FitsSigned, w32, of_z, to_z}
use Rattle.std.proofs.lemmas.Int.{to_z-of_z}
use Rattle.drm_road.proofs.ListLemmas.{padded_more}
use Rattle.drm_road.proofs.met.key.Goals as goal

pub loop-j-preserved : goal.loop-j-preserved
loop-j-preserved c =
    let below : c.loop-j.j < 6 = omega arith in
    let fits : FitsSigned w32 c.at.result = search rules in
    let same : to_z w32 (of_z w32 c.at.result) ≡ c.at.result = to_z-of_z w32 c.at.result fits in
    rw (same, c.loop-j.invariant) (padded_more c.args.config.now (pos 0) 6 c.loop-j.j c.at.result c.at.ensures below)
