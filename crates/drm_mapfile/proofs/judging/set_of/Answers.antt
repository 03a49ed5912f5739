-- One more cell is in the set.
use Rattle.std.proofs.Common.{Bool, ap, arith}
use Rattle.std.proofs.Math.ListN.{length, length-set}
use Rattle.drm_mapfile.proofs.JudgingLemmas.{first_more}
use Rattle.drm_mapfile.proofs.judging.set_of.Goals as goal

pub loop-cell-preserved : goal.loop-cell-preserved
loop-cell-preserved c =
    let inside = c.requires.in_grid c.loop-cell.cell-index 0 c.loop-cell-test.true in
    let longer = ap length c.insert.ensures in
    record {
      size = omega (arith, longer, length-set {A = Bool}, c.loop-cell.invariant.size);
      first = first_more c.loop-cell.set c.insert.new.self c.args.cells.now c.loop-cell.cell-index c.from.result c.loop-cell.invariant.first c.loop-cell-test.true c.from.ensures (omega (arith, inside, c.loop-cell.invariant.size, c.from.ensures)) c.insert.ensures;
    }
