-- The boxes of a piece of a motion hold the links of the arm at each moment of the piece.
use Rattle.std.proofs.Common.{◌≡◌, ℕ, zero, suc, ◌≤◌, ◌<◌, ℤ, pos, ◌≤ℤ◌, List, [], ◌∷◌, length, take, get_or, slice_get, Some, refl, sym, ap, ◌∙◌, arith}
use Rattle.std.proofs.lemmas.Int.{ints}
use Rattle.std.proofs.lemmas.Option.{same_Some, slice_get_within, slice_get-get_or}
use Rattle.drm_num.specs.Interval.{Lies}
use Rattle.drm_arm.specs.declared.arm.Link.{Link}
use Rattle.drm_arm.specs.declared.config.Motion.{Motion}
use Rattle.drm_arm.specs.Motion.{IsMotion}
use Rattle.drm_pose.specs.declared.boxes.Plate.{Plate}
use Rattle.drm_pose.specs.declared.boxes.LinkBox.{LinkBox}
use Rattle.drm_pose.specs.Boxes.{Span, spans, spans_between, first_axis, origin, boxes_from, pose_of}
use Rattle.drm_pose.specs.Chain.{Joint, Chain, base, chain_from, turned}
use Rattle.drm_pose.specs.Enclosure.{LiesIn, direction_of, end_of, tangent, IsUnit, HoldsLink}
use Rattle.drm_pose.specs.Moment.{Moment, IsInPiece, joints_at, joints_between, denominator}
use Rattle.drm_pose.specs.Laws.{PosesEnclose, EachLinkHasBoxes}
use Rattle.drm_pose.proofs.ContainmentLemmas.{link_box-holds}
use Rattle.drm_pose.proofs.DirectionLemmas.{IsUnit-turned, IsUnit-base}
use Rattle.drm_pose.proofs.SpanLemmas.{length-joints_between, length-spans_between}
use Rattle.drm_pose.proofs.TangentLemmas.{Lies-tangent}

-- the joint is one of the span
record JointFits (d : ℤ) (j : Joint) (span : Span) : Type 0 where
  pub long : j.len ≡ span.len
  pub up : pos 0 ≤ℤ span.len
  pub inside : Lies (tangent d j.n) span.tangents

-- each joint is one of its span
abbrev JointsFit : ℤ → List Joint → List Span → Type 0
JointsFit d [] [] = Unit {0}
JointsFit d (j ∷ joints) (span ∷ rest) = JointFits d j span × JointsFit d joints rest
JointsFit d _ _ = ⊥

-- the boxes hold the links, one after the other
abbrev HoldEach : ℤ → Chain → List Joint → List LinkBox → Type 0
HoldEach d c [] boxes = Unit {0}
HoldEach d c (j ∷ joints) [] = ⊥
HoldEach d c (j ∷ joints) (box ∷ boxes) = HoldsLink d c j box × HoldEach d (turned d c j) joints boxes

-- the joints of an arm at a moment of a piece are those of the spans over the piece
joints_fit : (links : List Link) (from to : List ℤ) (depth index : ℕ) (m : Moment) → depth ≤ 20 → IsInPiece depth index m → JointsFit (denominator m) (joints_between links from to m) (spans_between links from to depth index)
joints_fit [] from to depth index m shallow h = tt
joints_fit (link ∷ links) [] to depth index m shallow h = tt
joints_fit (link ∷ links) (a ∷ starts) [] depth index m shallow h = tt
joints_fit (link ∷ links) (a ∷ starts) (b ∷ ends) depth index m shallow h =
    (record { long = refl; up = omega (arith, ints); inside = Lies-tangent a b depth index m shallow h }, joints_fit links starts ends depth index m shallow h)

-- from a joint on, the boxes hold the links
hold_each : (d : ℤ) (c : Chain) (direction tip : Plate) (joints : List Joint) (rest : List Span) → JointsFit d joints rest → IsUnit c → LiesIn (direction_of c) direction → LiesIn (end_of c) tip → HoldEach d c joints (boxes_from direction tip rest)
hold_each d c direction tip [] rest fit is_unit in_direction in_tip = tt
hold_each d c direction tip (j ∷ joints) [] fit is_unit in_direction in_tip = absurd fit
hold_each d c direction tip (j ∷ joints) (span ∷ rest) fit is_unit in_direction in_tip =
    let here = link_box-holds d c j direction tip span is_unit fit.0.long fit.0.up in_direction in_tip fit.0.inside in
    (here, hold_each d (turned d c j) _ _ joints rest fit.1 (IsUnit-turned d c j fit.0.inside.proper is_unit) here.direction here.tip)

-- the box with a number holds the link with that number
hold_at : (d : ℤ) (c : Chain) (joints : List Joint) (boxes : List LinkBox) (k : ℕ) (j : Joint) (box : LinkBox) → HoldEach d c joints boxes → slice_get joints k ≡ Some j → slice_get boxes k ≡ Some box → HoldsLink d (chain_from d c (take k joints)) j box
hold_at d c [] boxes k j box h is_joint is_box = cc
hold_at d c (i ∷ joints) [] k j box h is_joint is_box = absurd h
hold_at d c (i ∷ joints) (b ∷ boxes) zero j box h is_joint is_box = rw (← same_Some i j is_joint, ← same_Some b box is_box) h.0
hold_at d c (i ∷ joints) (b ∷ boxes) (suc k) j box h is_joint is_box = hold_at d (turned d c i) joints boxes k j box h.1 is_joint is_box

-- the first axis and the origin
pub base_direction : LiesIn (direction_of base) first_axis
base_direction = record {
  x = record { proper = omega (arith, ints); above = omega (arith, ints); below = omega (arith, ints) };
  y = record { proper = omega (arith, ints); above = omega (arith, ints); below = omega (arith, ints) };
}

base_end : LiesIn (end_of base) origin
base_end = record {
  x = record { proper = omega (arith, ints); above = omega (arith, ints); below = omega (arith, ints) };
  y = record { proper = omega (arith, ints); above = omega (arith, ints); below = omega (arith, ints) };
}

pub length-boxes_from : (rest : List Span) (direction tip : Plate) → length (boxes_from direction tip rest) ≡ length rest
length-boxes_from [] direction tip = refl
length-boxes_from (span ∷ rest) direction tip = ap suc (length-boxes_from rest _ _)

-- as many boxes as links
pub length-pose_of : (links : List Link) (motion : Motion) (depth index : ℕ) → IsMotion links motion → length (pose_of links motion depth index) ≡ length links
unfolding pose_of
length-pose_of links motion depth index fits = length-boxes_from (spans links motion depth index) first_axis origin ∙ length-spans_between links motion.from motion.to depth index fits.from.counted fits.to.counted

-- the boxes of a piece of a motion enclose the arm at each moment of the piece
pub poses_enclose : PosesEnclose
unfolding pose_of
poses_enclose links motion depth index fits shallow m h =
    let fit = joints_fit links motion.from motion.to depth index m shallow h in
    record {
      each = length-pose_of links motion depth index fits ∙ sym (length-joints_between links motion.from motion.to m fits.from.counted fits.to.counted);
      holds = λ k j box. hold_at (denominator m) base (joints_at links motion m) _ k j box (hold_each (denominator m) base first_axis origin _ _ fit IsUnit-base base_direction base_end);
    }

-- each link has boxes
pub each_has_boxes : EachLinkHasBoxes
each_has_boxes links motion depth index k link fits is_link =
    let below : k < length (pose_of links motion depth index) = omega (arith, length-pose_of links motion depth index fits, slice_get_within links k link is_link) in
    let blank : LinkBox = record { direction = origin; base = origin; shift = origin; tip = origin } in
    (get_or (pose_of links motion depth index) k blank, slice_get-get_or (pose_of links motion depth index) k blank below)
