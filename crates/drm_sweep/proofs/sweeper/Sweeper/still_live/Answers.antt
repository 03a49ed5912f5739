-- Each turn tells of one link.
use Rattle.std.proofs.Common.{◌<◌, ◌≤◌, ◌∙◌, List, [], ◌∷◌, Bool, false, length, refl, arith}
use Rattle.std.proofs.lemmas.List.{length-set}
use Rattle.drm_sweep.proofs.LiveLemmas.{none_live, one_more_live, all_live}
use Rattle.drm_sweep.proofs.sweeper.Sweeper.still_live.Goals as goal

pub loop-k-init : goal.loop-k-init
loop-k-init c =
    let flags : List Bool = false ∷ false ∷ false ∷ false ∷ false ∷ false ∷ [] in
    (refl, none_live c.args.self.now.grid.now c.args.self.now.arm.now c.args.pose.now c.args.self.now.pad flags c.args.cells.now)

pub loop-k-preserved : goal.loop-k-preserved
loop-k-preserved c =
    let room : c.loop-k.k < length c.loop-k.still = omega (arith, c.loop-k.invariant.0, c.links-k-end.ensures.count, c.links-k-end.ensures.limits.few) in (
      length-set c.loop-k.still c.loop-k.k c.stays_live.result ∙ c.loop-k.invariant.0,
      one_more_live c.args.self.now.grid.now c.args.self.now.arm.now c.args.pose.now c.args.self.now.pad c.loop-k.k c.loop-k.still c.args.cells.now c.stays_live.result room c.loop-k.invariant.1 c.stays_live.ensures,
    )

pub returns : goal.returns
returns c =
    let all : length c.args.self.now.arm.now ≤ c.loop-k.k = omega arith in
    all_live c.args.self.now.grid.now c.args.self.now.arm.now c.args.pose.now c.args.self.now.pad c.loop-k.k c.loop-k.still c.args.cells.now all c.loop-k.invariant.1
