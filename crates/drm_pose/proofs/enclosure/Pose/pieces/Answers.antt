-- The box is made of the intervals of the run, which hold those of each piece.
use Rattle.std.proofs.Common.{◌≡◌, ◌^◌, ◌≤◌, pos, subst, sym, ◌∙◌, refl, arith}
use Rattle.std.proofs.lemmas.Option.{same_Some}
use Rattle.drm_num.specs.Interval.{IsOrdered}
use Rattle.drm_pose.specs.declared.boxes.Plate.{Plate}
use Rattle.drm_pose.specs.declared.boxes.LinkBox.{LinkBox}
use Rattle.drm_pose.specs.Boxes.{piece_of, run_of}
use Rattle.drm_pose.specs.Widths.{IsPlateWithin, IsInside, IsLinkBox}
use Rattle.drm_pose.proofs.PieceLemmas.{run-within, piece_inside}
use Rattle.drm_pose.proofs.enclosure.Pose.pieces.Goals as goal

pub returns-clause-value : goal.returns-clause-value
unfolding run_of
returns-clause-value c box is_box =
    let same = same_Some c.boxes_of-of.result.now box (sym c.boxes_of-of.ensures.place ∙ is_box) in
    subst (λ (b : LinkBox). record { x = c.interval.result; y = c.interval-2.result } ≡ run_of b c.args.p c.args.q c.args.cut.now) same (rw (c.interval.ensures.value, c.interval-2.ensures.value) refl)

pub returns-clause-within : goal.returns-clause-within
returns-clause-within c =
    let below = c.requires.pieces in
    let in_link = c.requires.within in
    let pieces : c.args.p ≤ c.args.q = omega arith in
    let some : 1 ≤ c.args.cut.now = omega arith in
    subst (IsPlateWithin (pos (2 ^ 43))) (sym (returns-clause-value c c.boxes_of-of.result.now c.boxes_of-of.ensures.place))
    (run-within c.boxes_of-of.result.now c.args.p c.args.q c.args.cut.now pieces in_link some c.boxes_of-of.ensures.limits)

pub returns-clause-holds : goal.returns-clause-holds
returns-clause-holds c box r is_box after before =
    let below = c.requires.pieces in
    let in_link = c.requires.within in
    let some : 1 ≤ c.args.cut.now = omega arith in
    subst (λ (plate : Plate). IsInside (piece_of box r c.args.cut.now) plate) (sym (returns-clause-value c box is_box)) (piece_inside box c.args.p c.args.q r c.args.cut.now some after before)

pub returns-clause-ordered : goal.returns-clause-ordered
returns-clause-ordered c box is_box =
    let same = same_Some c.boxes_of-of.result.now box (sym c.boxes_of-of.ensures.place ∙ is_box) in
    subst (λ (b : LinkBox). IsOrdered b.shift.x × IsOrdered b.shift.y) same (c.interval.ensures.ordered, c.interval-2.ensures.ordered)

pub returns-clause-limits : goal.returns-clause-limits
returns-clause-limits c box is_box =
    let same = same_Some c.boxes_of-of.result.now box (sym c.boxes_of-of.ensures.place ∙ is_box) in
    subst IsLinkBox same c.boxes_of-of.ensures.limits
