-- A cell that breaks the rule, or all cells.
use Rattle.std.proofs.Common.{◌≡◌, ◌≤◌, length, sym, inl, inr, arith}
use Rattle.drm_cellmap.proofs.RuleLoops.{not_rising, rise_all}
use Rattle.drm_cellmap.proofs.rules.is_sweep.Goals as goal
use Rattle.drm_cellmap.proofs.rules.is_sweep.Goals.{then-from-least-via-then-from-least, then-from-least-via-else-from-least+then-count-from}

pub returns-then-from-least : goal.returns-then-from-least
returns-then-from-least c =
    let fails = not_rising c.args.count c.args.cells.now c.loop-cell.cell-index c.loop-cell.least c.from.result c.loop-cell.invariant c.loop-cell-test.true (sym c.from.ensures) in
    elim c.then-from-least.branch [
      | then-from-least-via-then-from-least w ↦ sym (fails (inl w.if-from-least.true))
      | then-from-least-via-else-from-least+then-count-from w ↦
          let high : c.args.count ≤ c.from.result = omega (arith, w.if-count-from.true, w.from-else-from-least.ensures, c.from.ensures) in
          sym (fails (inr high))
    ]

pub returns : goal.returns
returns c =
    let done : c.loop-cell.cell-index ≡ length c.args.cells.now = let end = c.loop-cell.auto.cell-index-end in let test = c.loop-cell-test.false in omega arith in
    sym (rise_all c.args.count c.args.cells.now c.loop-cell.least (rw done at c.loop-cell.invariant))
