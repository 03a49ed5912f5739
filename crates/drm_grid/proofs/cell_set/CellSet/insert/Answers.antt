-- The bit of the cell is set, and the others stay.
use Rattle.std.proofs.Common.{◌/◌, ◌∙◌, ap, arith, true, List, Bool, slice_set}
use Rattle.std.proofs.lemmas.List.{get_or_read}
use Rattle.drm_grid.proofs.WordLemmas.{below_size, word_there, changes_to_one, IsPacked-changed, flags_of-inserted}
use Rattle.drm_grid.proofs.cell_set.CellSet.insert.Goals as goal

pub index_mut-requires : goal.index_mut-requires
index_mut-requires c =
    let below = below_size c.self.inside.words.items c.self.inside.cells c.args.self.now c.args.cell c.self.view_is c.requires in
    omega (arith, word_there c.self.inside.words.items c.self.inside.cells c.args.cell c.self.invariant below)

pub invariant_of-self : goal.invariant_of-self
invariant_of-self c =
    let below = below_size c.self.inside.words.items c.self.inside.cells c.args.self.now c.args.cell c.self.view_is c.requires in
    let there = word_there c.self.inside.words.items c.self.inside.cells c.args.cell c.self.invariant below in
    IsPacked-changed c.self.inside.words.items _ c.self.inside.cells c.args.cell 1 c.self.invariant below
    (changes_to_one c.self.inside.words.items c.args.cell c.index_mut.result.now there (get_or_read c.self.inside.words.items (c.args.cell / 64) c.index_mut.result.now there c.index_mut.ensures.value 0))

pub returns : goal.returns
returns c =
    let below = below_size c.self.inside.words.items c.self.inside.cells c.args.self.now c.args.cell c.self.view_is c.requires in
    let there = word_there c.self.inside.words.items c.self.inside.cells c.args.cell c.self.invariant below in
    flags_of-inserted c.self.inside.words.items _ c.self.inside.cells c.args.cell below
    (changes_to_one c.self.inside.words.items c.args.cell c.index_mut.result.now there (get_or_read c.self.inside.words.items (c.args.cell / 64) c.index_mut.result.now there c.index_mut.ensures.value 0))
    ∙ ap (λ (flags : List Bool). slice_set flags c.args.cell true) c.self.view_is
