-- The history at the lock begins with what was seen; it goes on with the edit, or stays.
use Rattle.std.proofs.Common.{◌≡◌, ℕ, List, [], ◌∷◌, ◌++◌, length, sym, ◌∙◌, ap, subst, arith, length-append, Ok, Err, Option}
use Rattle.std.specs.Option.{option_map}
use Rattle.drm_foot.specs.Placed.{Placed}
use Rattle.drm_shape.specs.declared.Shape.{Shape}
use Rattle.drm_talk.specs.declared.Entry.{Entry}
use Rattle.drm_share.specs.Own.{AreOwn}
use Rattle.drm_share.specs.Seen.{Seen}
use Rattle.drm_share.specs.Answers.{EditAnswers}
use Rattle.drm_share.proofs.OwnLemmas.{own_more, own_push}
use Rattle.drm_share.proofs.EditLemmas.{accepted, refused}
use Rattle.drm_share.proofs.pass.Pass.edit_at.Goals as goal

pub invariant_of-self-in-Err : goal.invariant_of-self-in-Err
invariant_of-self-in-Err g c =
    let stays : c.edit-answer.new.self ≡ c.covers.new.self = c.in-Err.ensures.unchanged in
    let all : c.front.result ≡ c.covers.new.self = c.front.ensures ∙ (c.locked-2.view_is ∙ stays) in
    let own = own_more c.self.inside.front c.covers.new.self c.self.inside.caller c.self.inside.own.items c.self.invariant.4 c.covers.ensures.begins in (
      c.self.invariant.0,
      c.self.invariant.1,
      c.edit-answer.ensures.parts ∙ c.self.invariant.2,
      c.in-Err.ensures.not_counted ∙ (c.self.invariant.3 ∙ ap length (sym c.reserve.ensures.items)),
      subst (λ (h : List Entry). AreOwn h c.self.inside.caller c.reserve.new.self.items) (sym all)
          (subst (λ (ns : List ℕ). AreOwn c.covers.new.self c.self.inside.caller ns) (sym c.reserve.ensures.items) own),
    )

pub returns-in-Err-clause-answer : goal.returns-in-Err-clause-answer
returns-in-Err-clause-answer g c =
    let content : Option Shape = option_map (λ (placed : Placed). placed.shape) c.args.foot in
    let entry_is = c.op_of-op.ensures.entry in
    let answers = refused c.self.inside.caller c.args.slot c.self.inside.front c.covers.new.self c.edit-answer.new.self c.front.result c.op_of-op.result.entry
    c.self.inside.own.items content c.edit-answer.result c.in-Err.fault
    c.requires.slot (ap (λ (e : Entry). e.slot) entry_is) (ap (λ (e : Entry). e.shape) entry_is) c.edit-answer.ensures.within
    c.covers.ensures.begins c.in-Err.is c.edit-answer.ensures.fault c.edit-answer.ensures.unchanged (c.front.ensures ∙ c.locked-2.view_is) in
    subst (λ (ns : List ℕ). EditAnswers c.args.self.now (record { caller = c.self.inside.caller; front = c.front.result; own = ns }) c.args.slot content (Err c.in-Err.fault)) (sym c.reserve.ensures.items)
    (subst (λ (before : Seen). EditAnswers before (record { caller = c.self.inside.caller; front = c.front.result; own = c.self.inside.own.items }) c.args.slot content (Err c.in-Err.fault)) c.self.view_is answers)

pub invariant_of-self-2 : goal.invariant_of-self-2
invariant_of-self-2 g c =
    let told = c.in-Ok.ensures.ok in
    let all : c.front.result ≡ c.covers.new.self ++ c.op_of-op.result.entry ∷ [] = c.front.ensures ∙ (c.locked-2.view_is ∙ told.0) in
    let number : c.in-Ok.number ≡ length (c.covers.new.self ++ c.op_of-op.result.entry ∷ []) = told.1 ∙ ap length told.0 in
    let mine = ap (λ (e : Entry). e.caller) c.op_of-op.ensures.entry in
    let before = own_more c.self.inside.front c.covers.new.self c.self.inside.caller c.self.inside.own.items c.self.invariant.4 c.covers.ensures.begins in
    let own = own_push c.covers.new.self c.op_of-op.result.entry c.self.inside.caller c.in-Ok.number c.self.inside.own.items before mine number in
    let items : c.push_reserved.new.self.items ≡ c.self.inside.own.items ++ c.in-Ok.number ∷ [] =
    c.push_reserved.ensures.items ∙ ap (λ (ns : List ℕ). ns ++ c.in-Ok.number ∷ []) c.reserve.ensures.items in (
      c.self.invariant.0,
      c.self.invariant.1,
      c.edit-answer.ensures.parts ∙ c.self.invariant.2,
      omega (arith, c.in-Ok.ensures.counted, c.self.invariant.3, ap length items, length-append c.self.inside.own.items (c.in-Ok.number ∷ [])),
      subst (λ (h : List Entry). AreOwn h c.self.inside.caller c.push_reserved.new.self.items) (sym all)
          (subst (λ (ns : List ℕ). AreOwn (c.covers.new.self ++ c.op_of-op.result.entry ∷ []) c.self.inside.caller ns) (sym items) own),
    )

pub returns-clause-answer : goal.returns-clause-answer
returns-clause-answer g c =
    let content : Option Shape = option_map (λ (placed : Placed). placed.shape) c.args.foot in
    let entry_is = c.op_of-op.ensures.entry in
    let items : c.push_reserved.new.self.items ≡ c.self.inside.own.items ++ c.in-Ok.number ∷ [] =
    c.push_reserved.ensures.items ∙ ap (λ (ns : List ℕ). ns ++ c.in-Ok.number ∷ []) c.reserve.ensures.items in
    let answers = accepted c.self.inside.caller c.in-Ok.number c.args.slot c.self.inside.front c.covers.new.self c.edit-answer.new.self c.front.result c.op_of-op.result.entry
    c.self.inside.own.items content c.edit-answer.result
    c.requires.slot (ap (λ (e : Entry). e.caller) entry_is) (ap (λ (e : Entry). e.slot) entry_is) (ap (λ (e : Entry). e.shape) entry_is) c.covers.ensures.begins c.in-Ok.is c.edit-answer.ensures.ok (c.front.ensures ∙ c.locked-2.view_is) in
    subst (λ (ns : List ℕ). EditAnswers c.args.self.now (record { caller = c.self.inside.caller; front = c.front.result; own = ns }) c.args.slot content (Ok c.in-Ok.number)) (sym items)
    (subst (λ (before : Seen). EditAnswers before (record { caller = c.self.inside.caller; front = c.front.result; own = c.self.inside.own.items ++ c.in-Ok.number ∷ [] }) c.args.slot content (Ok c.in-Ok.number)) c.self.view_is answers)
