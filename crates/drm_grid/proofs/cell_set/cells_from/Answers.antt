-- The bits below that of `first` are shifted out.
use Rattle.std.proofs.Common.{arith}
use Rattle.drm_grid.proofs.WordLemmas.{bits_from}
use Rattle.drm_grid.proofs.cell_set.cells_from.Goals as goal

pub returns : goal.returns
returns c = λ bit small.
    let fits = c.ranges.word in
    let skip = c.saturating_sub-skipped.ensures in
    let start = c.requires.start in
    let from = bits_from c.args.word c.saturating_sub-skipped.result bit (omega arith) (omega arith) in
    ((λ is. let both = from.0 is in (omega arith, both.1)), (λ (after, is). from.1 (omega arith, is)))
