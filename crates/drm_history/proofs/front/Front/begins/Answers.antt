-- Both begin what is known of both together.
use Rattle.std.proofs.Common.{ap, subst, List, refl}
use mathlib.Core.List.{IsPrefix}
use Rattle.drm_talk.specs.declared.Entry.{Entry}
use Rattle.drm_history.proofs.FrontLemmas.{shorter_begins}
use Rattle.drm_history.proofs.front.Front.begins.Goals as goal

pub returns : goal.returns
returns g c =
    let both = c.learn.new.self.log in
    let this : IsPrefix c.self.inside.seen.log both = subst (λ (l : List Entry). IsPrefix l both) (ap (λ s. s.log) c.again-both.ensures) c.learn.ensures.2 in
    rw (← c.self.view_is, ← c.other.view_is)
    (shorter_begins c.self.inside.number c.other.inside.number c.self.inside.seen.log c.other.inside.seen.log both
    c.self.invariant.1.exact c.other.invariant.1.exact this c.learn.ensures.3 _ refl)
