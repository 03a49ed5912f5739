-- Each turn takes the other's bits out of one word.
use Rattle.std.proofs.Common.{◌<◌, ◌≤◌, ◌^◌, ℕ, length, refl, sym, subst, ap, ◌∙◌, arith, rules, ◌↔◌}
use Rattle.std.proofs.lemmas.List.{get_or_read}
use Rattle.drm_grid.specs.CellSet.{Has, IsMissing}
use Rattle.drm_grid.specs.Words.{flags_of, IsPacked}
use Rattle.drm_grid.proofs.WordLemmas.{same_count, length-flags_of}
use Rattle.drm_grid.proofs.LeastLemmas.{HasLost-none, HasLost-more, IsPacked-lost, Has-lost}
use Rattle.drm_grid.proofs.cell_set.CellSet.remove_all.Goals as goal

pub index-requires : goal.index-requires
index-requires c =
    let same = same_count c.self.inside.words.items c.other.inside.words.items c.self.inside.cells c.other.inside.cells c.args.self.now c.args.other.now c.self.invariant c.self.view_is c.other.invariant c.other.view_is c.requires in
    omega arith

pub loop-place-init : goal.loop-place-init
loop-place-init c = (HasLost-none c.self.inside.words.items c.other.inside.words.items, refl)

pub loop-place-preserved : goal.loop-place-preserved
loop-place-preserved c =
    let lost = c.loop-place.invariant.0 in
    let count = lost.count in
    let same = same_count c.self.inside.words.items c.other.inside.words.items c.self.inside.cells c.other.inside.cells c.args.self.now c.args.other.now c.self.invariant c.self.view_is c.other.invariant c.other.view_is c.requires in
    let mine = get_or_read c.loop-place.self-inside.words.items c.loop-place.place c.index_mut.result.now (omega arith) c.index_mut.ensures.value 0 in
    let others = get_or_read c.other.inside.words.items c.loop-place.place c.index.result.now (omega arith) c.index.ensures 0 in
    let small : c.index.result.now < 2 ^ 64 = search rules in
    (HasLost-more c.self.inside.words.items c.other.inside.words.items c.loop-place.self-inside.words.items c.loop-place.place c.index_mut.result.now c.index.result.now (omega arith) mine others small lost, c.loop-place.invariant.1)

pub invariant_of-self : goal.invariant_of-self
invariant_of-self c =
    let end : length c.self.inside.words.items ≤ c.loop-place.place = omega arith in
    subst (IsPacked c.loop-place.self-inside.words.items) (sym c.loop-place.invariant.1)
    (IsPacked-lost c.self.inside.words.items c.other.inside.words.items c.loop-place.self-inside.words.items c.self.inside.cells c.loop-place.place end c.self.invariant c.loop-place.invariant.0)

pub returns-clause-size : goal.returns-clause-size
returns-clause-size c = length-flags_of c.loop-place.self-inside.words.items c.loop-place.self-inside.cells ∙ c.loop-place.invariant.1 ∙ sym (length-flags_of c.self.inside.words.items c.self.inside.cells) ∙ ap length c.self.view_is

pub returns-clause-exact : goal.returns-clause-exact
returns-clause-exact c = λ cell.
    let end : length c.self.inside.words.items ≤ c.loop-place.place = omega arith in
    subst (λ (n : ℕ). Has (flags_of c.loop-place.self-inside.words.items n) cell ↔ IsMissing c.args.self.now c.args.other.now cell) (sym c.loop-place.invariant.1)
    (Has-lost c.self.inside.words.items c.other.inside.words.items c.loop-place.self-inside.words.items c.self.inside.cells c.other.inside.cells c.args.self.now c.args.other.now c.loop-place.place cell end c.self.invariant c.self.view_is c.other.invariant c.other.view_is c.loop-place.invariant.0)
