-- The pass's front begins the history.
use Rattle.std.proofs.Common.{List, subst}
use Rattle.drm_talk.specs.declared.Entry.{Entry}
use Rattle.drm_talk.specs.Front.{Begins}
use Rattle.drm_share.specs.Closing.{IsPartOf}
use Rattle.drm_share.specs.Seen.{Seen}
use Rattle.drm_share.proofs.OwnLemmas.{own_more}
use Rattle.drm_share.proofs.close.take_in.Goals as goal

pub returns-clause-part_of : goal.returns-clause-part_of
returns-clause-part_of g c =
    let begins = subst (λ (h : List Entry). Begins c.pass.inside.front h) c.covers.ensures.same c.covers.ensures.begins in
    subst (λ (seen : Seen). IsPartOf c.args.tail.now seen) c.pass.view_is
    (record { front = begins; own = own_more c.pass.inside.front c.args.tail.now c.pass.inside.caller c.pass.inside.own.items c.pass.invariant.4 begins })
