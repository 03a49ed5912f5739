-- The last of those that are left is taken in.
use Rattle.std.proofs.Common.{◌≡◌, List, [], ◌∷◌, ◌++◌, length, refl, sym, ◌∙◌, ap, subst, arith, append_assoc, append-nil, Option}
use Rattle.std.specs.Prelude.{All}
use Rattle.std.specs.Option.{option_to_list}
use Rattle.std.proofs.lemmas.List.{nil_from_length}
use Rattle.std.proofs.lemmas.List.Sums.{sum_by-append}
use Rattle.drm_talk.specs.declared.Entry.{Entry}
use Rattle.drm_share.specs.Closing.{IsPartOf}
use Rattle.drm_share.specs.Seen.{Seen}
use Rattle.drm_share.proofs.ClosingLemmas.{all_cons}
use Rattle.drm_share.proofs.close.gather.Goals as goal

pub loop-pass-init : goal.loop-pass-init
loop-pass-init g c = ([], sym (append-nil c.args.passes.items), refl, (λ k d below. absurd (omega arith)), c.requires.parts, c.requires.amount)

pub loop-pass-preserved : goal.loop-pass-preserved
loop-pass-preserved g c =
    let before = c.loop-pass.invariant in
    let items : c.loop-pass.left.items ≡ c.pop.new.self.items ++ c.in-Some.pass ∷ [] =
    c.pop.ensures.items ∙ ap (λ (o : Option Seen). c.pop.new.self.items ++ option_to_list o) c.in-Some.is in
    let part = subst (λ (h : List Entry). IsPartOf h c.in-Some.pass) before.2 c.take_in.ensures.part_of in
    let sums = sum_by-append (λ (seen : Seen). length seen.own) (c.in-Some.pass ∷ []) before.0 in (
      c.in-Some.pass ∷ before.0,
      before.1 ∙ (ap (λ (xs : List Seen). xs ++ before.0) items ∙ append_assoc c.pop.new.self.items (c.in-Some.pass ∷ []) before.0),
      c.take_in.ensures.same ∙ before.2,
      all_cons (λ (seen : Seen). IsPartOf c.args.tail.now seen) c.in-Some.pass before.0 part before.3,
      omega (arith, c.take_in.ensures.parts, before.4),
      omega (arith, c.take_in.ensures.amount, before.5, sums),
    )

pub returns-clause-parts_of : goal.returns-clause-parts_of
returns-clause-parts_of g c =
    let before = c.loop-pass.invariant in
    let empty : c.loop-pass.left.items ≡ [] = nil_from_length c.loop-pass.left.items (omega (arith, c.in_default.ensures.cases.0, c.loop-pass.left.ok.0)) in
    let all : c.args.passes.items ≡ before.0 = before.1 ∙ ap (λ (xs : List Seen). xs ++ before.0) empty in
    subst (λ (xs : List Seen). All (λ (seen : Seen). IsPartOf c.args.tail.now seen) xs) (sym all) before.3
