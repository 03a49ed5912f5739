-- The edit may follow, so both copies take it.
use Rattle.std.specs.Prelude.{slice_set, slice_index}
use Rattle.std.proofs.Common.{◌≡◌, ◌+◌, ◌<◌, List, [], ◌∷◌, ◌++◌, length, sym, ◌∙◌, ap, subst, rules}
use Rattle.drm_talk.specs.declared.Entry.{Entry}
use Rattle.drm_talk.specs.History.{MayFollow}
use Rattle.drm_share.specs.declared.shown.Shown.{Shown}
use Rattle.drm_share.specs.Published.{Shows}
use Rattle.drm_share.specs.Made.{AreMade}
use Rattle.drm_share.proofs.DeskLemmas.{added, made_more}
use Rattle.drm_share.proofs.desk.Desk.add.Goals as goal

pub replace_with-requires : goal.replace_with-requires
replace_with-requires g c =
    let may : MayFollow c.self.inside.tail c.args.op.entry (length c.self.inside.tail) = rw c.self.view_is c.requires.may in
    let ends = c.reach-reach.ensures.log ∙ (c.front.ensures ∙ (c.add.ensures ∙ ap (λ (e : Entry). c.self.inside.tail ++ e ∷ []) c.entry.ensures.exact)) in (
      c.self.invariant.1,
      (added _ _ c.self.inside.tail c.self.inside.writer.desk.shown.value (record { op = c.args.op; reach = c.reach-reach.result })
          c.self.invariant.0 may c.requires.grid c.reach-reach.ensures.book ends).0,
    )

pub invariant_of-self : goal.invariant_of-self
invariant_of-self g c =
    let may : MayFollow c.self.inside.tail c.args.op.entry (length c.self.inside.tail) = rw c.self.view_is c.requires.may in
    let longer = c.add.ensures ∙ ap (λ (e : Entry). c.self.inside.tail ++ e ∷ []) c.entry.ensures.exact in
    let ends = c.reach-reach.ensures.log ∙ (c.front.ensures ∙ longer) in
    let shows = (added _ _ c.self.inside.tail c.self.inside.writer.desk.shown.value (record { op = c.args.op; reach = c.reach-reach.result })
    c.self.invariant.0 may c.requires.grid c.reach-reach.ensures.book ends).1 in
    let made : length c.self.inside.made ≡ 8 = search rules in (
      subst (λ (h : List Entry). Shows _ _ h c.replace_with.new.dest.desk.shown.value) (sym longer)
          (subst (λ (x : Shown). Shows _ _ (c.self.inside.tail ++ c.args.op.entry ∷ []) x) (sym c.replace_with.ensures.1.0) shows),
      c.replace_with.ensures.0,
      subst (λ (h : List Entry). AreMade h (slice_set c.self.inside.made c.entry-caller.result.caller (slice_index c.self.inside.made c.entry-caller.result.caller + 1))) (sym (longer ∙ ap (λ (e : Entry). c.self.inside.tail ++ e ∷ []) (sym c.entry-caller.ensures.exact)))
          (made_more c.self.inside.tail c.entry-caller.result c.self.inside.made c.self.invariant.2 made (subst (λ (e : Entry). e.caller < 8) (sym c.entry-caller.ensures.exact) c.requires.caller) may.room),
    )
