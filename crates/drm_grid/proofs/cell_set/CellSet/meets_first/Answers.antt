-- The word at a place has the cells that both sets have, and the first that is not 0 has the least.
use Rattle.std.proofs.Common.{ℕ, bit_and, get_or, ap, ◌∙◌, arith}
use Rattle.std.proofs.lemmas.List.{get_or_read}
use Rattle.drm_grid.specs.CellSet.{IsCommon}
use Rattle.drm_grid.proofs.WordLemmas.{same_count}
use Rattle.drm_grid.proofs.LeastLemmas.{IsWordOf-common, none_at_first, none_more, least_at, none_at_all, Has-within}
use Rattle.drm_grid.proofs.cell_set.CellSet.meets_first.Goals as goal

pub index-requires-in-loop-place : goal.index-requires-in-loop-place
index-requires-in-loop-place c =
    let same = same_count c.self.inside.words.items c.other.inside.words.items c.self.inside.cells c.other.inside.cells c.args.self.now c.args.other.now c.self.invariant c.self.view_is c.other.invariant c.other.view_is c.requires in
    omega arith

pub loop-place-init : goal.loop-place-init
loop-place-init c = none_at_first (IsCommon c.args.self.now c.args.other.now)

pub loop-place-preserved : goal.loop-place-preserved
loop-place-preserved c =
    let same = same_count c.self.inside.words.items c.other.inside.words.items c.self.inside.cells c.other.inside.cells c.args.self.now c.args.other.now c.self.invariant c.self.view_is c.other.invariant c.other.view_is c.requires in
    let mine = get_or_read c.self.inside.words.items c.loop-place.place c.index.result.now (omega arith) c.index.ensures 0 in
    let others = get_or_read c.other.inside.words.items c.loop-place.place c.index-in-loop-place.result.now (omega arith) c.index-in-loop-place.ensures 0 in
    let of = IsWordOf-common c.self.inside.words.items c.other.inside.words.items c.self.inside.cells c.other.inside.cells c.args.self.now c.args.other.now c.loop-place.place (bit_and c.index.result.now c.index-in-loop-place.result.now)
    c.self.invariant c.self.view_is c.other.invariant c.other.view_is (ap (λ (w : ℕ). bit_and w c.index-in-loop-place.result.now) mine ∙ ap (λ (w : ℕ). bit_and (get_or c.self.inside.words.items c.loop-place.place 0) w) others) in
    none_more (IsCommon c.args.self.now c.args.other.now) c.loop-place.place _ of c.if-both-ne0.false c.loop-place.invariant

pub returns-then-both-ne0 : goal.returns-then-both-ne0
returns-then-both-ne0 c =
    let same = same_count c.self.inside.words.items c.other.inside.words.items c.self.inside.cells c.other.inside.cells c.args.self.now c.args.other.now c.self.invariant c.self.view_is c.other.invariant c.other.view_is c.requires in
    let mine = get_or_read c.self.inside.words.items c.loop-place.place c.index.result.now (omega arith) c.index.ensures 0 in
    let others = get_or_read c.other.inside.words.items c.loop-place.place c.index-in-loop-place.result.now (omega arith) c.index-in-loop-place.ensures 0 in
    let of = IsWordOf-common c.self.inside.words.items c.other.inside.words.items c.self.inside.cells c.other.inside.cells c.args.self.now c.args.other.now c.loop-place.place (bit_and c.index.result.now c.index-in-loop-place.result.now)
    c.self.invariant c.self.view_is c.other.invariant c.other.view_is (ap (λ (w : ℕ). bit_and w c.index-in-loop-place.result.now) mine ∙ ap (λ (w : ℕ). bit_and (get_or c.self.inside.words.items c.loop-place.place 0) w) others) in
    least_at (IsCommon c.args.self.now c.args.other.now) c.loop-place.place _ c.lowest_cell.result of c.loop-place.invariant c.lowest_cell.ensures.is c.lowest_cell.ensures.least

pub returns : goal.returns
returns c = none_at_all (IsCommon c.args.self.now c.args.other.now) c.loop-place.place c.loop-place.invariant
    (λ cell is. let within = Has-within c.self.inside.words.items c.self.inside.cells c.args.self.now cell c.self.invariant c.self.view_is is.0 in omega arith)
