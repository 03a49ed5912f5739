-- One more link.
use Rattle.drm_mapfile.specs.Text.{link_text}
use Rattle.drm_mapfile.proofs.WritingLemmas.{put_more}
use Rattle.drm_mapfile.proofs.writing.put_links.Goals as goal

pub loop-k-preserved : goal.loop-k-preserved
loop-k-preserved c = put_more link_text c.args.arm.now c.loop-k.k c.link.result c.args.out.now.items c.loop-k.out.items c.put_link.new.out.items c.link.ensures.place c.loop-k.invariant c.in_ok-put_link.ensures
