-- Sets of one size have as many words, so the words of one serve the other.
use Rattle.std.proofs.Common.{◌∙◌, ℕ, List, length, ap, sym, subst, arith}
use Rattle.drm_grid.specs.Words.{flags_of, IsPacked}
use Rattle.drm_grid.proofs.WordLemmas.{same_count, same_size}
use Rattle.drm_grid.proofs.cell_set.CellSet.copy_from.Goals as goal

pub copy_from_slice-requires : goal.copy_from_slice-requires
copy_from_slice-requires c =
    let same = same_count c.self.inside.words.items c.other.inside.words.items c.self.inside.cells c.other.inside.cells c.args.self.now c.args.other.now c.self.invariant c.self.view_is c.other.invariant c.other.view_is c.requires in
    let words = ap length c.deref.ensures.value in
    omega arith

pub invariant_of-self : goal.invariant_of-self
invariant_of-self c =
    let items = c.copy_from_slice.ensures.items ∙ c.deref.ensures.value in
    let sizes = same_size c.self.inside.words.items c.other.inside.words.items c.self.inside.cells c.other.inside.cells c.args.self.now c.args.other.now c.self.view_is c.other.view_is c.requires in
    subst (λ (n : ℕ). IsPacked c.copy_from_slice.new.self.items n) (sym sizes)
    (subst (λ (words : List ℕ). IsPacked words c.other.inside.cells) (sym items) c.other.invariant)

pub returns : goal.returns
returns c =
    let items = c.copy_from_slice.ensures.items ∙ c.deref.ensures.value in
    let sizes = same_size c.self.inside.words.items c.other.inside.words.items c.self.inside.cells c.other.inside.cells c.args.self.now c.args.other.now c.self.view_is c.other.view_is c.requires in
    ap (λ (words : List ℕ). flags_of words c.self.inside.cells) items ∙ ap (λ (n : ℕ). flags_of c.other.inside.words.items n) sizes ∙ c.other.view_is
