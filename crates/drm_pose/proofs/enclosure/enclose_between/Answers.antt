-- Each turn adds the boxes of one link.
use Rattle.std.proofs.Common.{rules, ◌≡◌, ◌<◌, List, length, sym, ap, ◌∙◌, subst, arith}
use Rattle.drm_pose.specs.declared.boxes.LinkBox.{LinkBox}
use Rattle.drm_pose.specs.Boxes.{first_axis, origin}
use Rattle.drm_pose.specs.Widths.{IsPose}
use Rattle.drm_pose.proofs.EndLemmas.{spans_of, length-spans_of, pose_between}
use Rattle.drm_pose.proofs.EnclosureLemmas.{length-boxes_from}
use Rattle.drm_pose.proofs.LoopLemmas.{none_yet, near_base, one_more, all_between}
use Rattle.drm_pose.proofs.WidthLemmas.{IsPose-between}
use Rattle.drm_pose.proofs.enclosure.enclose_between.Goals as goal

pub loop-k-init : goal.loop-k-init
loop-k-init c = rw (c.first_axis-direction.ensures, c.origin-tip.ensures) (none_yet c.args.arm.now (spans_of c.args.arm.now c.args.start.now c.args.end.now) _)

pub next-link-requires-clause-base : goal.next-link-requires-clause-base
next-link-requires-clause-base c = near_base c.args.arm.now c.loop-k.k c.loop-k.tip c.links-count.ensures.limits c.loop-k.invariant.near

pub next-link-requires-clause-length : goal.next-link-requires-clause-length
next-link-requires-clause-length c = c.link-len.ensures.limits.short

pub loop-k-preserved : goal.loop-k-preserved
loop-k-preserved c =
    let room : c.loop-k.k < length c.loop-k.links = search rules in
    one_more c.args.arm.now c.args.start.now c.args.end.now c.loop-k.k c.loop-k.direction c.loop-k.tip c.loop-k.links c.link-len.result c.joint.result.now c.joint-in-loop-k.result.now c.next-link.result c.loop-k.invariant c.link-len.ensures.place c.joint.ensures c.joint-in-loop-k.ensures room c.next-link.ensures.value c.next-link.ensures.some

pub returns-clause-value : goal.returns-clause-value
returns-clause-value c = λ motion depth index is_start is_end.
    let last : c.loop-k.k ≡ c.links-count.result = omega arith in
    all_between c.args.arm.now c.args.start.now c.args.end.now c.loop-k.k c.links-count.result c.loop-k.direction c.loop-k.tip c.loop-k.links c.loop-k.invariant c.requires.starts c.requires.ends c.links-count.ensures.count last
    ∙ pose_between c.args.arm.now motion depth index c.args.start.now c.args.end.now is_start is_end

pub returns-clause-each : goal.returns-clause-each
returns-clause-each c =
    let last : c.loop-k.k ≡ c.links-count.result = omega arith in
    let boxes = all_between c.args.arm.now c.args.start.now c.args.end.now c.loop-k.k c.links-count.result c.loop-k.direction c.loop-k.tip c.loop-k.links c.loop-k.invariant c.requires.starts c.requires.ends c.links-count.ensures.count last in
    ap (λ (bs : List LinkBox). length bs) boxes ∙ length-boxes_from (spans_of c.args.arm.now c.args.start.now c.args.end.now) first_axis origin ∙ length-spans_of c.args.arm.now c.args.start.now c.args.end.now c.requires.starts c.requires.ends

pub invariant_of-result : goal.invariant_of-result
invariant_of-result c =
    let last : c.loop-k.k ≡ c.links-count.result = omega arith in
    let boxes = all_between c.args.arm.now c.args.start.now c.args.end.now c.loop-k.k c.links-count.result c.loop-k.direction c.loop-k.tip c.loop-k.links c.loop-k.invariant c.requires.starts c.requires.ends c.links-count.ensures.count last in (
      omega (arith, c.links-count.ensures.count, c.links-count.ensures.limits.few),
      subst IsPose (sym boxes) (IsPose-between c.args.arm.now c.args.start.now c.args.end.now c.links-count.ensures.limits),
    )
