-- Where a pose is a leaf, the boxes of the parts of a link are narrow.
use Rattle.std.proofs.Common.{◌≡◌, ℕ, zero, suc, ◌*◌, ◌+◌, ◌^◌, ◌<◌, ◌≤◌, ℤ, pos, ◌*ℤ◌, ◌≤ℤ◌, List, [], ◌∷◌, slice_get, Some, subst, arith}
use Rattle.std.proofs.lemmas.Int.{ints}
use Rattle.std.specs.Int.{int_max}
use Rattle.std.specs.List.{fold}
use Rattle.std.proofs.lemmas.Option.{same_Some}
use Rattle.drm_num.specs.Interval.{IsOrdered, unit}
use Rattle.drm_num.specs.Arithmetic.{sum, width}
use Rattle.drm_num.proofs.Integers.{trans, le_self, max_first, max_second}
use Rattle.drm_num.proofs.IntervalLemmas.{Lies-ordered}
use Rattle.drm_num.proofs.Sizes.{IsOrdered-hull, IsOrdered-scaled}
use Rattle.drm_arm.specs.declared.arm.Link.{Link}
use Rattle.drm_arm.specs.declared.config.Motion.{Motion}
use Rattle.drm_pose.specs.declared.boxes.Plate.{Plate}
use Rattle.drm_pose.specs.declared.boxes.LinkBox.{LinkBox}
use Rattle.drm_pose.specs.Boxes.{exactly, tangent_at, Span, spans_between, first_axis, origin, boxes_from, pose_of, tip_width, piece_of}
use Rattle.drm_pose.specs.Enclosure.{HoldsDirection}
use Rattle.drm_pose.specs.Laws.{PartsOfLeavesAreNarrow}
use Rattle.drm_pose.specs.Widths.{IsPlateWithin, IsNarrow, IsLinkBox, IsLeaf}
use Rattle.drm_pose.proofs.ContainmentLemmas.{HoldsDirection-turned}
use Rattle.drm_pose.proofs.PieceLemmas.{leaf_part}
use Rattle.drm_pose.proofs.SpreadLemmas.{first_direction}
use Rattle.drm_pose.proofs.WidthLemmas.{IsPose-pose_of, shift-long, pose_at}

-- the spread is at least each width
most_above : (most : ℤ) (boxes : List LinkBox) → most ≤ℤ fold (λ most box. int_max most (tip_width box)) most boxes
most_above most [] = le_self most
most_above most (box ∷ boxes) = trans (max_first most (tip_width box)) (most_above (int_max most (tip_width box)) boxes)

tip_at : (most : ℤ) (boxes : List LinkBox) (k : ℕ) (box : LinkBox) → slice_get boxes k ≡ Some box → tip_width box ≤ℤ fold (λ most box. int_max most (tip_width box)) most boxes
tip_at most [] k box h = cc
tip_at most (b ∷ boxes) zero box h =
    subst (λ (x : LinkBox). tip_width x ≤ℤ fold (λ most box. int_max most (tip_width box)) (int_max most (tip_width b)) boxes) (same_Some b box h)
    (trans (max_second most (tip_width b)) (most_above (int_max most (tip_width b)) boxes))
tip_at most (b ∷ boxes) (suc k) box h = tip_at (int_max most (tip_width b)) boxes k box h

-- at a leaf, the pieces of a link that is cut in enough of them
pub leaf-piece : (boxes : List LinkBox) (k : ℕ) (box : LinkBox) (p n len side : ℕ) → slice_get boxes k ≡ Some box → IsLinkBox box → IsOrdered box.shift.x → IsOrdered box.shift.y → p < n → IsPlateWithin (pos len *ℤ unit) box.shift → IsLeaf side boxes → 16 * len ≤ n * side → IsNarrow (pos (side * 2 ^ 27 + 2)) (piece_of box p n)
unfolding piece_of
leaf-piece boxes k box p n len side is_box sound ordered_x ordered_y below within leaf enough =
    let widest = trans (tip_at (pos 0) boxes k box is_box) leaf in
    let x_wide : width (sum box.base.x box.shift.x) ≤ℤ pos (side * 2 ^ 26) = subst (λ (plate : Plate). width plate.x ≤ℤ pos (side * 2 ^ 26)) sound.moved (trans (max_first (width box.tip.x) (width box.tip.y)) widest) in
    let y_wide : width (sum box.base.y box.shift.y) ≤ℤ pos (side * 2 ^ 26) = subst (λ (plate : Plate). width plate.y ≤ℤ pos (side * 2 ^ 26)) sound.moved (trans (max_second (width box.tip.x) (width box.tip.y)) widest) in
    record {
      x = leaf_part box.base.x box.shift.x p n len side below ordered_x within.x enough x_wide;
      y = leaf_part box.base.y box.shift.y p n len side below ordered_y within.y enough y_wide;
    }

-- ---- the displacements of a pose stand in order

-- the spans are ordered and of no negative length
abbrev AllOrdered : List Span → Type 0
AllOrdered [] = Unit {0}
AllOrdered (span ∷ rest) = ((pos 0 ≤ℤ span.len) × IsOrdered span.tangents) × AllOrdered rest

AllOrdered-spans_between : (links : List Link) (from to : List ℤ) (depth index : ℕ) → AllOrdered (spans_between links from to depth index)
AllOrdered-spans_between [] from to depth index = tt
AllOrdered-spans_between (link ∷ links) [] to depth index = tt
AllOrdered-spans_between (link ∷ links) (a ∷ starts) [] depth index = tt
AllOrdered-spans_between (link ∷ links) (a ∷ starts) (b ∷ ends) depth index = (
  (omega (arith, ints), IsOrdered-hull (exactly (tangent_at a b depth index)) (exactly (tangent_at a b depth (index + 1))) (le_self (tangent_at a b depth index))),
  AllOrdered-spans_between links starts ends depth index,
)

shift_ordered : (rest : List Span) (k : ℕ) (direction tip : Plate) (box : LinkBox) → AllOrdered rest → HoldsDirection direction → slice_get (boxes_from direction tip rest) k ≡ Some box → IsOrdered box.shift.x × IsOrdered box.shift.y
shift_ordered [] k direction tip box ordered some is_box = cc
shift_ordered (span ∷ rest) zero direction tip box ordered some is_box =
    let after = HoldsDirection-turned direction span.tangents ordered.0.1 some in
    rw (← same_Some _ box is_box) (IsOrdered-scaled span.len ordered.0.0 (Lies-ordered after.inside.x), IsOrdered-scaled span.len ordered.0.0 (Lies-ordered after.inside.y))
shift_ordered (span ∷ rest) (suc k) direction tip box ordered some is_box =
    shift_ordered rest k _ _ box ordered.1 (HoldsDirection-turned direction span.tangents ordered.0.1 some) is_box

shift_of_pose : (links : List Link) (motion : Motion) (depth index k : ℕ) (box : LinkBox) → slice_get (pose_of links motion depth index) k ≡ Some box → IsOrdered box.shift.x × IsOrdered box.shift.y
unfolding pose_of
shift_of_pose links motion depth index k box is_box =
    shift_ordered (spans_between links motion.from motion.to depth index) k first_axis origin box (AllOrdered-spans_between links motion.from motion.to depth index) first_direction is_box

-- the parts of a leaf's links
pub parts_narrow : PartsOfLeavesAreNarrow
parts_narrow links motion depth index k link box p n side arm is_link is_box leaf below enough =
    let ordered = shift_of_pose links motion depth index k box is_box in
    leaf-piece (pose_of links motion depth index) k box p n link.len side is_box
    (pose_at (pose_of links motion depth index) k box (IsPose-pose_of links motion depth index arm) is_box)
    ordered.0 ordered.1 below (shift-long links motion depth index k link box is_link is_box) leaf enough
