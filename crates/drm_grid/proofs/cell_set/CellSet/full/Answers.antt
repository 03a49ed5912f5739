-- All bits are 1, but those of the last word that no cell has.
use Rattle.std.proofs.Common.{rules, ◌≡◌, ◌<◌, ◌-◌, ◌%◌, ◌^◌, replicate, ap, subst, sym, ◌∙◌, arith, ℕ, Vec, Global}
use Rattle.drm_grid.proofs.WordLemmas.{IsFull, IsFull-whole, IsFull-cut, IsPacked-full, flags_of-full}
use Rattle.drm_grid.proofs.cell_set.CellSet.full.Goals as goal
use Rattle.drm_grid.proofs.cell_set.CellSet.full.Goals.{then-rest-ne0, else-rest-ne0}

is_full : (c : goal.Joined-rest-ne0) → IsFull c.if-rest-ne0.words.items c.args.cells
is_full c =
    let items : c.in_ok-words.words.items ≡ replicate c.div_ceil.result (2 ^ 64 - 1) = search rules in
    let count = items ∙ ap (λ (n : ℕ). replicate n (2 ^ 64 - 1)) c.div_ceil.ensures in
    elim c.if-rest-ne0.branch [
      | then-rest-ne0 w ↦
          let some : 0 < c.args.cells % 64 = let not_whole = w.if-rest-ne0.true in omega arith in
          subst (λ (words : Vec ℕ Global). IsFull words.items c.args.cells) (sym w.words-is) (IsFull-cut c.in_ok-words.words.items c.args.cells count some)
      | else-rest-ne0 w ↦
          subst (λ (words : Vec ℕ Global). IsFull words.items c.args.cells) (sym w.words-is) (IsFull-whole c.in_ok-words.words.items c.args.cells count w.if-rest-ne0.false)
    ]

pub invariant_of-result : goal.invariant_of-result
invariant_of-result c = IsPacked-full c.if-rest-ne0.words.items c.args.cells c.requires (is_full c)

pub returns : goal.returns
returns c = flags_of-full c.if-rest-ne0.words.items c.args.cells (is_full c)
