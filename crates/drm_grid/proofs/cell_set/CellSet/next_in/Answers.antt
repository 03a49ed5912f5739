-- The word at a place has the cells from the first on, and the first that is not 0 has the least of them.
use Rattle.std.proofs.Common.{length, ap, sym, ◌∙◌, arith}
use Rattle.std.proofs.lemmas.List.{get_or_read}
use Rattle.drm_grid.proofs.WordLemmas.{length-flags_of}
use Rattle.drm_grid.proofs.LeastLemmas.{HasFrom, IsWordOf-from, none_before_first, none_more, least_at, next_found, next_beyond, none_between}
use Rattle.drm_grid.proofs.cell_set.CellSet.next_in.Goals as goal

pub index-requires : goal.index-requires
index-requires c =
    let size = sym (length-flags_of c.self.inside.words.items c.self.inside.cells) ∙ ap length c.self.view_is in
    let enough = c.self.invariant.enough in
    omega (arith, c.div_ceil-place-end.ensures)

pub cells_from-word-requires-clause-place : goal.cells_from-word-requires-clause-place
cells_from-word-requires-clause-place c =
    let size = sym (length-flags_of c.self.inside.words.items c.self.inside.cells) ∙ ap length c.self.view_is in
    let few = c.self.invariant.few in
    omega (arith, c.div_ceil-place-end.ensures)

pub lowest_cell-cell-requires-clause-place : goal.lowest_cell-cell-requires-clause-place
lowest_cell-cell-requires-clause-place c =
    let size = sym (length-flags_of c.self.inside.words.items c.self.inside.cells) ∙ ap length c.self.view_is in
    let few = c.self.invariant.few in
    omega (arith, c.div_ceil-place-end.ensures)

pub loop-place-init : goal.loop-place-init
loop-place-init c = none_before_first c.args.self.now c.args.first

pub loop-place-preserved : goal.loop-place-preserved
loop-place-preserved c =
    let size = sym (length-flags_of c.self.inside.words.items c.self.inside.cells) ∙ ap length c.self.view_is in
    let enough = c.self.invariant.enough in
    let whole = get_or_read c.self.inside.words.items c.loop-place.place c.index.result.now (omega (arith, c.div_ceil-place-end.ensures)) c.index.ensures 0 in
    let of = IsWordOf-from c.self.inside.words.items c.self.inside.cells c.args.self.now c.args.first c.loop-place.place c.index.result.now c.cells_from-word.result c.self.invariant c.self.view_is whole c.cells_from-word.ensures in
    none_more (HasFrom c.args.self.now c.args.first) c.loop-place.place c.cells_from-word.result of c.if-word-ne0.false c.loop-place.invariant

pub returns-then-cell-end : goal.returns-then-cell-end
returns-then-cell-end c =
    let size = sym (length-flags_of c.self.inside.words.items c.self.inside.cells) ∙ ap length c.self.view_is in
    let enough = c.self.invariant.enough in
    let whole = get_or_read c.self.inside.words.items c.loop-place.place c.index.result.now (omega (arith, c.div_ceil-place-end.ensures)) c.index.ensures 0 in
    let of = IsWordOf-from c.self.inside.words.items c.self.inside.cells c.args.self.now c.args.first c.loop-place.place c.index.result.now c.cells_from-word.result c.self.invariant c.self.view_is whole c.cells_from-word.ensures in
    let least = least_at (HasFrom c.args.self.now c.args.first) c.loop-place.place c.cells_from-word.result c.lowest_cell-cell.result of c.loop-place.invariant c.lowest_cell-cell.ensures.is c.lowest_cell-cell.ensures.least in
    next_found c.args.self.now c.args.first c.args.end c.lowest_cell-cell.result c.if-cell-end.true least

pub returns-else-cell-end : goal.returns-else-cell-end
returns-else-cell-end c =
    let size = sym (length-flags_of c.self.inside.words.items c.self.inside.cells) ∙ ap length c.self.view_is in
    let enough = c.self.invariant.enough in
    let whole = get_or_read c.self.inside.words.items c.loop-place.place c.index.result.now (omega (arith, c.div_ceil-place-end.ensures)) c.index.ensures 0 in
    let of = IsWordOf-from c.self.inside.words.items c.self.inside.cells c.args.self.now c.args.first c.loop-place.place c.index.result.now c.cells_from-word.result c.self.invariant c.self.view_is whole c.cells_from-word.ensures in
    let least = least_at (HasFrom c.args.self.now c.args.first) c.loop-place.place c.cells_from-word.result c.lowest_cell-cell.result of c.loop-place.invariant c.lowest_cell-cell.ensures.is c.lowest_cell-cell.ensures.least in
    next_beyond c.args.self.now c.args.first c.args.end c.lowest_cell-cell.result c.if-cell-end.false least

pub returns : goal.returns
returns c = none_between c.args.self.now c.args.first c.args.end c.loop-place.place (omega (arith, c.div_ceil-place-end.ensures)) c.loop-place.invariant
