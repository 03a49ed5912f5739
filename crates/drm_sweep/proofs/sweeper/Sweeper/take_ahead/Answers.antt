-- What is taken of the one piece of depth 0 is taken of the motion.
use Rattle.std.proofs.Common.{refl}
use Rattle.drm_sweep.proofs.AheadLemmas.{motion_ahead}
use Rattle.drm_sweep.proofs.sweeper.Sweeper.take_ahead.Goals as goal

pub returns-then-not-is_leaf : goal.returns-then-not-is_leaf
returns-then-not-is_leaf c =
    let of = c.args.self.now in
    motion_ahead of.grid.now of.arm.now of.motion.now of.pad 20 c.args.cells.now c.take_first_leaves.new.cells refl c.requires.size (c.take_first_leaves.ensures 20 refl)
