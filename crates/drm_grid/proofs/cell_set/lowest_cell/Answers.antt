-- The lowest bit of a word that is 1 is that of its least cell.
use Rattle.std.proofs.Common.{w64, arith}
use Rattle.std.proofs.lemmas.Nat.Bits.{bit_at-trailing_zeros}
use Rattle.drm_grid.proofs.WordLemmas.{IsBitCell-lowest, no_lower}
use Rattle.drm_grid.proofs.cell_set.lowest_cell.Goals as goal

pub returns-clause-is : goal.returns-clause-is
returns-clause-is c =
    let fits = c.ranges.word in
    let low = bit_at-trailing_zeros w64 c.args.word c.requires.some (omega arith) in
    IsBitCell-lowest c.args.place c.args.word c.requires.some (omega arith) _ low.0 low.1

pub returns-clause-least : goal.returns-clause-least
returns-clause-least c =
    let fits = c.ranges.word in
    let low = bit_at-trailing_zeros w64 c.args.word c.requires.some (omega arith) in
    λ cell below. no_lower c.args.place c.args.word _ cell low.2 below
