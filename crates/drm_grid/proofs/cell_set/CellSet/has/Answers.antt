-- The test reads the bit of the cell.
use Rattle.std.proofs.Common.{◌/◌, ◌%◌, ap, sym, subst, ◌∙◌, arith, eq-eqb, List, Bool}
use Rattle.std.specs.Int.{bit_at}
use Rattle.std.proofs.lemmas.Bool.{eqb-true}
use Rattle.std.proofs.lemmas.List.{get_or_read}
use Rattle.std.proofs.lemmas.Nat.Bits.{shr_and_one}
use Rattle.drm_grid.specs.CellSet.{Has}
use Rattle.drm_grid.proofs.WordLemmas.{below_size, word_there, Has-flags_of}
use Rattle.drm_grid.proofs.cell_set.CellSet.has.Goals as goal

pub index-requires : goal.index-requires
index-requires c =
    let below = below_size c.self.inside.words.items c.self.inside.cells c.args.self.now c.args.cell c.self.view_is c.requires in
    omega (arith, word_there c.self.inside.words.items c.self.inside.cells c.args.cell c.self.invariant below)

pub returns : goal.returns
returns c =
    let words = c.self.inside.words.items in
    let cells = c.self.inside.cells in
    let below = below_size words cells c.args.self.now c.args.cell c.self.view_is c.requires in
    let there = word_there words cells c.args.cell c.self.invariant below in
    let word = get_or_read words (c.args.cell / 64) c.index.result.now there c.index.ensures 0 in
    let bit = shr_and_one c.index.result.now (c.args.cell % 64) ∙ ap (λ w. bit_at w (c.args.cell % 64)) word in
    let has = Has-flags_of words cells c.args.cell in (
      (λ yes. subst (λ (flags : List Bool). Has flags c.args.cell) c.self.view_is (has.1 (below, sym bit ∙ eqb-true _ 1 yes))),
      (λ h. eq-eqb _ 1 (bit ∙ (has.0 (subst (λ (flags : List Bool). Has flags c.args.cell) (sym c.self.view_is) h)).1)),
    )
