-- A leaf gives the cells near its pose, and any other pose what its halves give, or nothing where no link is live.
use Rattle.std.proofs.Common.{◌+◌, ◌*◌, ◌-◌, ◌∙◌, List, refl, subst, arith, rules}
use Rattle.drm_pose.specs.declared.boxes.LinkBox.{LinkBox}
use Rattle.drm_pose.specs.Boxes.{pose_of}
use Rattle.drm_pose.specs.Widths.{IsLeaf}
use Rattle.drm_sweep.specs.Swept.{Sweeps}
use Rattle.drm_sweep.specs.Taken.{NearLinksAreLive}
use Rattle.drm_sweep.proofs.LiveLemmas.{HalfLaws, live_for_first, live_for_second, still_live_after, all_closed}
use Rattle.drm_sweep.proofs.PoseLemmas.{leaf_taken, halves_fit, not_leaf, piece_halved}
use Rattle.drm_sweep.proofs.sweeper.Sweeper.+take_piece.Goals as goal

pub take_piece-requires : goal.take_piece-requires
take_piece-requires t c =
    let of = c.args.self.now in
    let piece = c.args.piece.now in
    let below = c.if-is_leaf.ensures.deep refl in
    let room = halves_fit piece.depth piece.index c.requires.piece.index in
    let laws : HalfLaws = record { halves = c.halves_are_inside.ensures; pieces = c.pieces_keep_inclusion.ensures.pieces; boxes = c.each_link_has_boxes.ensures } in
    let known = subst (λ (bs : List LinkBox). NearLinksAreLive of.grid.now of.arm.now bs of.pad c.still_live-still.result c.args.cells.now) c.pose_of-pose.ensures.value c.still_live-still.ensures in
    let live = live_for_first laws of.grid.now of.arm.now of.motion.now of.pad piece.depth piece.index c.still_live-still.result c.args.cells.now of.motion_fits below known in
    (search rules, (search rules, (c.requires.size, live)))

pub take_piece-requires-then-has_live : goal.take_piece-requires-then-has_live
take_piece-requires-then-has_live t c =
    let of = c.args.self.now in
    let piece = c.args.piece.now in
    let below = c.if-is_leaf.ensures.deep refl in
    let room = halves_fit piece.depth piece.index c.requires.piece.index in
    let half = c.take_piece.ensures (19 - piece.depth) (omega arith) in
    let laws : HalfLaws = record { halves = c.halves_are_inside.ensures; pieces = c.pieces_keep_inclusion.ensures.pieces; boxes = c.each_link_has_boxes.ensures } in
    let known = subst (λ (bs : List LinkBox). NearLinksAreLive of.grid.now of.arm.now bs of.pad c.still_live-still.result c.args.cells.now) c.pose_of-pose.ensures.value c.still_live-still.ensures in
    let live = still_live_after of.grid.now of.arm.now (pose_of of.arm.now of.motion.now (piece.depth + 1) (2 * piece.index + 1)) of.pad c.still_live-still.result c.args.cells.now c.take_piece.new.cells
    (λ cell. Sweeps of.grid.now of.arm.now of.motion.now of.pad cell (19 - piece.depth) (piece.depth + 1) (2 * piece.index)) half
    (live_for_second laws of.grid.now of.arm.now of.motion.now of.pad piece.depth piece.index c.still_live-still.result c.args.cells.now of.motion_fits below known) in
    (search rules, (search rules, (half.size ∙ c.requires.size, live)))

pub returns-then-is_leaf : goal.returns-then-is_leaf
returns-then-is_leaf t c = λ halvings all.
    let of = c.args.self.now in
    let piece = c.args.piece.now in
    let leaf : IsLeaf of.grid.now.side c.pose_of-pose.result = c.is_leaf.ensures.exact.0 (search rules) in
    leaf_taken of.grid.now of.arm.now of.motion.now c.pose_of-pose.result of.pad halvings piece.depth piece.index c.args.cells.now c.take_pose.new.cells c.pose_of-pose.ensures.value leaf (search rules)

pub returns-then-has_live : goal.returns-then-has_live
returns-then-has_live t c = λ halvings all.
    let of = c.args.self.now in
    let piece = c.args.piece.now in
    piece_halved of.grid.now of.arm.now of.motion.now of.pad halvings piece.depth piece.index c.args.cells.now c.take_piece.new.cells c.take_piece-then-has_live.new.cells all (c.if-is_leaf.ensures.deep refl)
    (not_leaf of.grid.now.side (pose_of of.arm.now of.motion.now piece.depth piece.index) c.pose_of-pose.result c.pose_of-pose.ensures.value c.if-is_leaf.ensures.exact) c.take_piece.ensures c.take_piece-then-has_live.ensures

pub returns-else-has_live : goal.returns-else-has_live
returns-else-has_live t c = λ halvings all.
    let of = c.args.self.now in
    let piece = c.args.piece.now in
    let laws : HalfLaws = record { halves = c.halves_are_inside.ensures; pieces = c.pieces_keep_inclusion.ensures.pieces; boxes = c.each_link_has_boxes.ensures } in
    let known = subst (λ (bs : List LinkBox). NearLinksAreLive of.grid.now of.arm.now bs of.pad c.still_live-still.result c.args.cells.now) c.pose_of-pose.ensures.value c.still_live-still.ensures in
    all_closed laws of.grid.now of.arm.now of.motion.now of.pad halvings piece.depth piece.index c.still_live-still.result c.args.cells.now of.motion_fits all known (c.has_live.ensures c.if-has_live.false)
