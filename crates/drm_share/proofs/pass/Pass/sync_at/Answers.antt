-- The history begins with what was seen, so the caller's edits stand in it.
use Rattle.std.proofs.Common.{List, sym, subst}
use Rattle.drm_talk.specs.declared.Entry.{Entry}
use Rattle.drm_share.specs.Own.{AreOwn}
use Rattle.drm_share.proofs.OwnLemmas.{own_more}
use Rattle.drm_share.proofs.pass.Pass.sync_at.Goals as goal

pub invariant_of-self : goal.invariant_of-self
invariant_of-self g c = (
  c.self.invariant.0,
  c.self.invariant.1,
  c.self.invariant.2,
  c.self.invariant.3,
  subst (λ (h : List Entry). AreOwn h c.self.inside.caller c.self.inside.own.items) (sym c.front-end.ensures)
      (own_more c.self.inside.front c.covers.new.self c.self.inside.caller c.self.inside.own.items c.self.invariant.4 c.covers.ensures.begins),
)
