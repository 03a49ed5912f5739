-- Each turn takes out the cells near one piece.
use Rattle.drm_sweep.specs.Runs.{IsNearPiece}
use Rattle.drm_sweep.proofs.TakenLemmas.{one_more_taken}
use Rattle.drm_sweep.proofs.PoseLemmas.{piece_taken, some_at}
use Rattle.drm_sweep.proofs.pieces.Pieces.take_each.Goals as goal

pub loop-p-preserved : goal.loop-p-preserved
loop-p-preserved c =
    let of = c.args.self.now in
    let (box, is_box) = some_at of.pose.now of.link of.link_fits in
    one_more_taken (IsNearPiece of.grid.now of.pose.now of.link of.cut of.far) c.args.first c.loop-p.p c.args.cells.now c.loop-p.cells c.take_from.new.cells c.loop-p.auto.p c.loop-p.invariant
    (piece_taken of.grid.now of.pose.now of.link of.cut of.far c.loop-p.p box c.piece_of.result c.loop-p.cells c.take_from.new.cells is_box (c.piece_of.ensures.value box is_box) c.take_from.ensures)
