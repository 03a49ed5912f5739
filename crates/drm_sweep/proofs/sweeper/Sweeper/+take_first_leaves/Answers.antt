-- A leaf gives some of the cells near its pose, and any other pose some of what its halves give.
use Rattle.std.proofs.Common.{◌≤◌, ◌-◌, ◌∙◌, length, refl, arith, rules}
use Rattle.drm_pose.specs.Boxes.{pose_of}
use Rattle.drm_pose.specs.Widths.{IsLeaf}
use Rattle.drm_sweep.specs.Swept.{Sweeps}
use Rattle.drm_sweep.proofs.AheadLemmas.{all_ahead, some_then_some, some_of_first, some_of_second}
use Rattle.drm_sweep.proofs.LiveLemmas.{first_live}
use Rattle.drm_sweep.proofs.PoseLemmas.{leaf_taken, halves_fit, not_leaf}
use Rattle.drm_sweep.proofs.sweeper.Sweeper.+take_first_leaves.Goals as goal

pub take_pose-requires-clause-live : goal.take_pose-requires-clause-live
take_pose-requires-clause-live t c =
    let of = c.args.self.now in
    let few : length of.arm.now ≤ 6 = omega (arith, c.pose_of-pose.ensures.limits.few) in
    first_live of.grid.now of.arm.now c.pose_of-pose.result of.pad 6 c.args.cells.now few

pub take_first_leaves-requires-then-is_long : goal.take_first_leaves-requires-then-is_long
take_first_leaves-requires-then-is_long t c =
    let below = c.if-is_leaf.ensures.deep refl in
    let room = halves_fit c.args.piece.now.depth c.args.piece.now.index c.requires.piece.index in
    let half = c.take_first_leaves.ensures (19 - c.args.piece.now.depth) (omega arith) in
    (search rules, (search rules, half.size ∙ c.requires.size))

pub returns-then-is_leaf : goal.returns-then-is_leaf
returns-then-is_leaf t c = λ halvings all.
    let of = c.args.self.now in
    let piece = c.args.piece.now in
    let leaf : IsLeaf of.grid.now.side c.pose_of-pose.result = c.is_leaf.ensures.exact.0 (search rules) in
    all_ahead (λ cell. Sweeps of.grid.now of.arm.now of.motion.now of.pad cell halvings piece.depth piece.index) c.args.cells.now c.take_pose.new.cells
    (leaf_taken of.grid.now of.arm.now of.motion.now c.pose_of-pose.result of.pad halvings piece.depth piece.index c.args.cells.now c.take_pose.new.cells c.pose_of-pose.ensures.value leaf c.take_pose.ensures)

pub returns-then-is_long : goal.returns-then-is_long
returns-then-is_long t c = λ halvings all.
    let of = c.args.self.now in
    let piece = c.args.piece.now in
    let below = c.if-is_leaf.ensures.deep refl in
    let large = not_leaf of.grid.now.side (pose_of of.arm.now of.motion.now piece.depth piece.index) c.pose_of-pose.result c.pose_of-pose.ensures.value c.if-is_leaf.ensures.exact in
    some_then_some (λ cell. Sweeps of.grid.now of.arm.now of.motion.now of.pad cell halvings piece.depth piece.index) c.args.cells.now c.take_first_leaves.new.cells c.take_first_leaves-then-is_long.new.cells
    (some_of_first of.grid.now of.arm.now of.motion.now of.pad halvings piece.depth piece.index c.args.cells.now c.take_first_leaves.new.cells all below large c.take_first_leaves.ensures)
    (some_of_second of.grid.now of.arm.now of.motion.now of.pad halvings piece.depth piece.index c.take_first_leaves.new.cells c.take_first_leaves-then-is_long.new.cells all below large c.take_first_leaves-then-is_long.ensures)

pub returns-else-is_long : goal.returns-else-is_long
returns-else-is_long t c = λ halvings all.
    let of = c.args.self.now in
    let piece = c.args.piece.now in
    let large = not_leaf of.grid.now.side (pose_of of.arm.now of.motion.now piece.depth piece.index) c.pose_of-pose.result c.pose_of-pose.ensures.value c.if-is_leaf.ensures.exact in
    some_of_first of.grid.now of.arm.now of.motion.now of.pad halvings piece.depth piece.index c.args.cells.now c.take_first_leaves.new.cells all (c.if-is_leaf.ensures.deep refl) large c.take_first_leaves.ensures
