-- Each turn appends the next number, and after the last turn the next one is the end.
use Rattle.std.proofs.Common.{ℕ, ◌≡◌, ◌<◌, subst, arith}
use Rattle.std.specs.List.{Contains}
use Rattle.drm_foot.specs.Block.{AddsRun}
use Rattle.drm_foot.proofs.BlockLemmas.{AddsRun-push}
use Rattle.drm_foot.proofs.footprint.push_run.Goals as goal

pub loop-cell-preserved : goal.loop-cell-preserved
loop-cell-preserved c =
    let room = c.loop-cell.invariant.1 in
    let longer = c.push_reserved.ensures.len in
    let same = c.push_reserved.ensures.capacity in
    let test = c.loop-cell-test.true in
    let above : (cell : ℕ) → Contains c.reserve.new.self.items cell → cell < c.args.first = rw c.reserve.ensures.items c.requires.above in (
      rw c.push_reserved.ensures.items
          (AddsRun-push c.reserve.new.self.items c.loop-cell.cells.items c.args.first c.loop-cell.cell c.loop-cell.auto.cell above c.loop-cell.invariant.0),
      omega arith,
    )

pub returns : goal.returns
returns c =
    let ended : c.loop-cell.cell ≡ c.args.end = omega arith in
    subst (λ (m : ℕ). AddsRun c.args.cells.now.items c.loop-cell.cells.items c.args.first m) ended (rw c.reserve.ensures.items at c.loop-cell.invariant.0)
