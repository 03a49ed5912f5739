use Rattle.std.proofs.Common.{ℕ, ◌*◌, ◌^◌, ◌<ℤ◌, pos, List, length, slice_get, sym, ap, ◌∙◌, subst}
use Rattle.drm_pose.specs.declared.boxes.LinkBox.{LinkBox}
use Rattle.drm_pose.specs.Boxes.{spread_of, pose_of}
use Rattle.drm_pose.specs.Enclosure.{Encloses}
use Rattle.drm_pose.specs.Moment.{joints_at, denominator}
use Rattle.drm_pose.specs.Widths.{IsLeaf}
use Rattle.drm_pose.proofs.EnclosureLemmas.{length-pose_of, poses_enclose}
use Rattle.drm_pose.proofs.SpreadLemmas.{spread-deep, deep_is_leaf}
use Rattle.drm_pose.proofs.WidthLemmas.{shift-long}
use Rattle.drm_pose.proofs.enclosure.enclose.Goals as goal

pub returns-clause-value : goal.returns-clause-value
returns-clause-value c = c.enclose_between.ensures.value c.args.motion.now c.args.depth c.args.index c.at-start.ensures.value c.at-end.ensures.value

pub returns-clause-each : goal.returns-clause-each
returns-clause-each c =
    ap (λ (boxes : List LinkBox). length boxes) (returns-clause-value c) ∙ length-pose_of c.args.arm.now c.args.motion.now c.args.depth c.args.index c.requires.motion

pub returns-clause-contains : goal.returns-clause-contains
returns-clause-contains c m h =
    subst (λ (boxes : List LinkBox). Encloses boxes (denominator m) (joints_at c.args.arm.now c.args.motion.now m)) (sym (returns-clause-value c))
    (poses_enclose c.args.arm.now c.args.motion.now c.args.depth c.args.index c.requires.motion c.requires.depth m h)

pub returns-clause-long : goal.returns-clause-long
returns-clause-long c k link box is_link is_box =
    shift-long c.args.arm.now c.args.motion.now c.args.depth c.args.index k link box is_link (ap (λ (boxes : List LinkBox). slice_get boxes k) (sym (returns-clause-value c)) ∙ is_box)

pub returns-clause-deep : goal.returns-clause-deep
returns-clause-deep c h =
    subst (λ (boxes : List LinkBox). spread_of boxes <ℤ pos (7 * 2 ^ 30)) (sym (returns-clause-value c))
    (spread-deep c.args.arm.now c.args.motion.now c.args.depth c.args.index c.at-start.ensures.limits c.requires.motion h)

pub returns-clause-leaf : goal.returns-clause-leaf
returns-clause-leaf c side h wide =
    subst (λ (boxes : List LinkBox). IsLeaf side boxes) (sym (returns-clause-value c))
    (subst (λ (n : ℕ). IsLeaf side (pose_of c.args.arm.now c.args.motion.now n c.args.index)) (sym h) (deep_is_leaf c.args.arm.now c.args.motion.now c.args.index side c.at-start.ensures.limits c.requires.motion wide))
