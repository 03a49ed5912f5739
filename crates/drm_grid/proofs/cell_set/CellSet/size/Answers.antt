-- There is a flag for each cell below the size.
use Rattle.std.proofs.Common.{length, sym, ◌∙◌, ap, arith}
use Rattle.drm_grid.proofs.WordLemmas.{length-flags_of}
use Rattle.drm_grid.proofs.cell_set.CellSet.size.Goals as goal

pub returns-clause-exact : goal.returns-clause-exact
returns-clause-exact c = sym (length-flags_of c.self.inside.words.items c.self.inside.cells) ∙ ap length c.self.view_is

pub returns-clause-limit : goal.returns-clause-limit
returns-clause-limit c = omega (arith, returns-clause-exact c, c.self.invariant.few)
