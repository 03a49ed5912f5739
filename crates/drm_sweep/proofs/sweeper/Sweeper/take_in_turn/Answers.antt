-- The whole motion is one piece, and at first all links are live.
use Rattle.std.proofs.Common.{refl, ◌≤◌, length, arith}
use Rattle.drm_pose.specs.Boxes.{pose_of}
use Rattle.drm_sweep.proofs.LiveLemmas.{first_live}
use Rattle.drm_sweep.proofs.PoseLemmas.{motion_taken}
use Rattle.drm_sweep.proofs.sweeper.Sweeper.take_in_turn.Goals as goal

pub take_piece-requires-clause-live : goal.take_piece-requires-clause-live
take_piece-requires-clause-live c =
    let of = c.args.self.now in
    let few : length of.arm.now ≤ 6 = omega (arith, c.at-start.ensures.limits.few) in
    first_live of.grid.now of.arm.now (pose_of of.arm.now of.motion.now 0 0) of.pad 6 c.args.cells.now few

pub returns : goal.returns
returns c =
    let of = c.args.self.now in
    motion_taken of.grid.now of.arm.now of.motion.now of.pad 20 c.args.cells.now c.take_piece.new.cells refl c.requires.size (c.take_piece.ensures 20 refl)
