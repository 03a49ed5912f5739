use Rattle.std.proofs.Common.{rules, refl, FitsSigned, w32}
use Rattle.std.proofs.lemmas.Int.{to_z-of_z}
use Rattle.rand_pcg.specs.Pcg.{pcg64}
use Rattle.drm_road.proofs.DrawLemmas.{drawing_none, drawing_more}
use Rattle.drm_road.proofs.sampling.draw.Goals as goal

pub loop-j-init : goal.loop-j-init
loop-j-init c = drawing_none pcg64 c.args.arm.now c.args.generator.now _ refl

pub loop-j-preserved : goal.loop-j-preserved
loop-j-preserved c =
    let fits : FitsSigned w32 c.coordinate.result = search rules in
    rw (to_z-of_z w32 c.coordinate.result fits) (drawing_more pcg64 c.args.arm.now c.args.generator.now c.loop-j.values c.loop-j.j c.loop-j.generator c.link-link.result c.next_word-word.result c.next_word-word.new.self c.coordinate.result c.loop-j.invariant c.link-link.ensures.place c.links-joints.ensures.limits.few c.next_word-word.ensures c.coordinate.ensures.value c.coordinate.ensures.within)
