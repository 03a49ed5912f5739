-- All pieces are those of the link; there is nothing to take near a link that is not live.
use Rattle.std.proofs.Common.{◌≡◌, true, false}
use Rattle.drm_sweep.proofs.LiveLemmas.{closed_link}
use Rattle.drm_sweep.proofs.sweeper.Sweeper.take_link.Goals as goal

pub returns-else-is_live : goal.returns-else-is_live
returns-else-is_live c =
    let of = c.args.self.now in
    closed_link of.grid.now of.arm.now c.args.pose.now of.pad c.args.k c.args.live.now c.args.cells.now c.requires.live
    (λ has. let wrong : false ≡ true = c.if-is_live.ensures.1 has in absurd (cc))
