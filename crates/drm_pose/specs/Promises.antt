-- What a pose and the boxes of its pieces promise.
use Rattle.std.specs.Prelude.{◌≡◌, ℕ, ◌+◌, ◌*◌, ◌^◌, ◌≤◌, ◌<◌, ℤ, pos, ◌*ℤ◌, ◌<ℤ◌, List, slice_get, Some}
use Rattle.drm_num.specs.Interval.{unit}
use Rattle.drm_arm.specs.declared.arm.Link.{Link}
use Rattle.drm_arm.specs.declared.config.Motion.{Motion}
use Rattle.drm_pose.specs.declared.boxes.Plate.{Plate}
use Rattle.drm_pose.specs.declared.boxes.LinkBox.{LinkBox}
use Rattle.drm_pose.specs.Chain.{Joint, axis_of}
use Rattle.drm_pose.specs.Enclosure.{LiesIn, Encloses, IsInPart}
use Rattle.drm_pose.specs.Moment.{Moment, IsInPiece, denominator, joints_at}
use Rattle.drm_pose.specs.Boxes.{pose_of, piece_of, tangents_at}
use Rattle.drm_pose.specs.Widths.{IsPlateWithin, IsNarrow, IsInside, IsLeaf}

-- at each moment of a piece of a motion, the boxes hold every link of the arm
abbrev pub EnclosesPiece : List LinkBox → List Link → Motion → ℕ → ℕ → Type 0
EnclosesPiece boxes links motion depth index =
    (m : Moment) → IsInPiece depth index m → Encloses boxes (denominator m) (joints_at links motion m)

-- the displacement from the base to the end of each link is no longer than the link
abbrev pub AreAsLong : List LinkBox → List Link → Type 0
AreAsLong boxes links =
    (k : ℕ) (link : Link) (box : LinkBox) → slice_get links k ≡ Some link → slice_get boxes k ≡ Some box → IsPlateWithin (pos link.len *ℤ unit) box.shift

-- wherever the boxes hold an arm, the plate holds the axis of link k from its fraction p / n to (p + 1) / n
abbrev pub HoldsAxisPart : List LinkBox → ℕ → ℕ → ℕ → Plate → Type 0
HoldsAxisPart boxes k p n plate =
    (d : ℤ) (joints : List Joint) (e f : ℕ) →
    pos 0 <ℤ d → Encloses boxes d joints → IsInPart p n e f →
    LiesIn (axis_of d joints k e f) plate

-- where the spread is at most a sixteenth of a grid's side, and link k is cut in pieces no longer than a sixteenth of it,
-- the sides of the plate are at most an eighth of the grid's side and two ulps
abbrev pub IsNarrowAtLeaf : List LinkBox → ℕ → ℕ → Plate → Type 0
IsNarrowAtLeaf boxes k n plate =
    (box : LinkBox) (len side : ℕ) →
    slice_get boxes k ≡ Some box → IsPlateWithin (pos len *ℤ unit) box.shift →
    IsLeaf side boxes → 16 * len ≤ n * side →
    IsNarrow (pos (side * 2 ^ 27 + 2)) plate

-- the plate holds the box of each of the pieces from p on and below q of n of link k
abbrev pub HoldsPieces : List LinkBox → ℕ → ℕ → ℕ → ℕ → Plate → Type 0
HoldsPieces boxes k p q n plate =
    (box : LinkBox) (r : ℕ) → slice_get boxes k ≡ Some box → p ≤ r → r < q → IsInside (piece_of box r n) plate

-- the boxes are those of every piece of a motion of the arm whose ends have these tangents
abbrev pub IsPoseBetween : List LinkBox → List Link → List ℤ → List ℤ → Type 0
IsPoseBetween boxes links starts ends =
    (motion : Motion) (depth index : ℕ) →
    starts ≡ tangents_at motion depth index → ends ≡ tangents_at motion depth (index + 1) →
    boxes ≡ pose_of links motion depth index
