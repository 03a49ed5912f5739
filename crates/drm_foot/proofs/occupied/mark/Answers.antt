-- Each cell is added in its turn.
use Rattle.std.proofs.Common.{◌≡◌, ◌<◌, ◌∙◌, true, length, take, get_or, arith}
use Rattle.std.proofs.Math.ListN.{length-set}
use Rattle.std.proofs.lemmas.List.{take_all}
use Rattle.drm_foot.proofs.OccupiedLemmas.{marked_next}
use Rattle.drm_foot.proofs.occupied.mark.Goals as goal

pub loop-cell-preserved : goal.loop-cell-preserved
loop-cell-preserved c =
    let small : get_or c.args.cells.now c.loop-cell.cell-index 0 < length c.loop-cell.set =
    omega (arith, c.requires c.loop-cell.cell-index 0 c.loop-cell-test.true) in
    rw c.insert.ensures (
      length-set c.loop-cell.set (get_or c.args.cells.now c.loop-cell.cell-index 0) true ∙ c.loop-cell.invariant.0,
      marked_next c.args.set.now c.loop-cell.set c.args.cells.now c.loop-cell.cell-index c.loop-cell-test.true small c.loop-cell.invariant.1,
    )

pub returns-clause-exact : goal.returns-clause-exact
returns-clause-exact c =
    let all : take c.loop-cell.cell-index c.args.cells.now ≡ c.args.cells.now = take_all _ _ c.loop-cell-test.false in
    rw all at c.loop-cell.invariant.1
