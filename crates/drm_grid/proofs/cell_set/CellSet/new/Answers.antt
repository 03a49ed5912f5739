-- All bits are 0 at first.
use Rattle.std.proofs.Common.{rules, ◌≡◌, replicate, arith}
use Rattle.drm_grid.proofs.WordLemmas.{flags_of-empty}
use Rattle.drm_grid.proofs.cell_set.CellSet.new.Goals as goal

pub returns : goal.returns
returns c =
    let items : c.in_ok-vec.field-0.items ≡ replicate c.div_ceil.result 0 = search rules in
    flags_of-empty c.in_ok-vec.field-0.items c.args.cells c.div_ceil.result items (omega (arith, c.div_ceil.ensures))
