-- Each turn takes out the cells near one link.
use Rattle.std.proofs.Common.{arith}
use Rattle.drm_sweep.specs.Swept.{IsNearLink}
use Rattle.drm_sweep.specs.Taken.{Among}
use Rattle.drm_sweep.proofs.TakenLemmas.{one_more_taken}
use Rattle.drm_sweep.proofs.PoseLemmas.{pose_taken}
use Rattle.drm_sweep.proofs.LiveLemmas.{still_live_after}
use Rattle.drm_sweep.proofs.sweeper.Sweeper.take_pose.Goals as goal

pub take_link-requires-clause-live : goal.take_link-requires-clause-live
take_link-requires-clause-live c =
    still_live_after c.args.self.now.grid.now c.args.self.now.arm.now c.args.pose.now c.args.self.now.pad c.args.live.now c.args.cells.now c.loop-k.cells
    (Among 0 c.loop-k.k (IsNearLink c.args.self.now.grid.now c.args.self.now.arm.now c.args.pose.now c.args.self.now.pad)) c.loop-k.invariant c.requires.live

pub loop-k-preserved : goal.loop-k-preserved
loop-k-preserved c = one_more_taken (IsNearLink c.args.self.now.grid.now c.args.self.now.arm.now c.args.pose.now c.args.self.now.pad) 0 c.loop-k.k c.args.cells.now c.loop-k.cells c.take_link.new.cells (omega arith) c.loop-k.invariant c.take_link.ensures

pub returns : goal.returns
returns c = pose_taken c.args.self.now.grid.now c.args.self.now.arm.now c.args.pose.now c.args.self.now.pad c.loop-k.k c.args.cells.now c.loop-k.cells (omega arith) c.loop-k.invariant
