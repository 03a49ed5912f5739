-- The front begins the history that was entered, so the caller's edits stand in that.
use Rattle.drm_share.proofs.OwnLemmas.{own_more}
use Rattle.drm_share.proofs.pass.Pass.try_snap.Goals as goal

pub invariant_of-self-2 : goal.invariant_of-self-2
invariant_of-self-2 g c =
    let told = c.in_ok-front.ensures in (
      told.0,
      c.self.invariant.1,
      c.self.invariant.2,
      c.self.invariant.3,
      own_more c.self.inside.front c.in_ok-front.front c.self.inside.caller c.self.inside.own.items c.self.invariant.4 told.1.0,
    )
