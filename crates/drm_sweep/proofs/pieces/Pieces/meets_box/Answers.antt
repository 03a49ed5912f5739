-- A run has no near piece where no cell is near its box.
use Rattle.std.proofs.Common.{rules}
use Rattle.drm_sweep.proofs.PoseLemmas.{run_none}
use Rattle.drm_sweep.proofs.pieces.Pieces.meets_box.Goals as goal

pub returns : goal.returns
returns c = λ same.
    let of = c.args.self.now in
    run_none of.grid.now of.pose.now of.link of.cut of.far c.args.first c.args.end c.pieces.result c.args.cells.now (search rules) (c.meets.ensures same)
