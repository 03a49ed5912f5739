-- Each turn appends the least cell that is not there yet.
use Rattle.std.proofs.Common.{◌+◌, length, ap, sym, subst, arith, ℕ, List, Bool}
use Rattle.drm_grid.specs.CellSet.{Has, AreCells}
use Rattle.drm_grid.proofs.WordLemmas.{length-flags_of, Has-flags_of}
use Rattle.drm_grid.proofs.ListLemmas.{ListsBelow, one_listed, all_listed}
use Rattle.drm_grid.proofs.cell_set.CellSet.to_list.Goals as goal

pub next_in-requires : goal.next_in-requires
next_in-requires c = omega (arith, length-flags_of c.self.inside.words.items c.self.inside.cells, ap length c.self.view_is)

pub loop-cell-preserved : goal.loop-cell-preserved
loop-cell-preserved c =
    subst (λ (cells : List ℕ). ListsBelow c.args.self.now cells (c.in-Some.cell + 1)) (sym c.in_ok-push.ensures.items)
    (one_listed c.args.self.now c.loop-cell.cells.items c.loop-cell.first c.self.inside.cells c.in-Some.cell c.in-Some.ensures c.loop-cell.invariant)

pub returns : goal.returns
returns c =
    subst (AreCells c.args.self.now) (sym c.from_vec.ensures)
    (all_listed c.args.self.now c.loop-cell.cells.items c.loop-cell.first c.self.inside.cells c.in_default.ensures
    (λ cell has. ((Has-flags_of c.self.inside.words.items c.self.inside.cells cell).0 (subst (λ (set : List Bool). Has set cell) (sym c.self.view_is) has)).0)
    c.loop-cell.invariant)
