use Rattle.std.proofs.Common.{arith, refl}
use Rattle.std.proofs.lemmas.Int.{ints}
use Rattle.std.proofs.lemmas.Option.{slice_get_read}
use Rattle.drm_pose.proofs.WidthLemmas.{IsPlateWithin-wider, pose_at}
use Rattle.drm_pose.proofs.enclosure.widest.Goals as goal

pub tip_width-requires : goal.tip_width-requires
tip_width-requires c =
    let place = slice_get_read c.args.links.now _ c.loop-link.link-index c.link-item.result refl c.loop-link-test.true c.link-item.is in
    IsPlateWithin-wider (omega (arith, ints)) (pose_at c.args.links.now c.loop-link.link-index c.link-item.result c.requires place).tip
