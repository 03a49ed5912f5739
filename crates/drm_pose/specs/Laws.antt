-- Laws of poses, pieces and reached points, each of them proved of a function that names it.
use Rattle.std.specs.Prelude.{◌≡◌, ◌⊎◌, ℕ, ◌+◌, ◌*◌, ◌^◌, ◌≤◌, ◌<◌, pos, ◌+ℤ◌, ◌*ℤ◌, ◌≤ℤ◌, List, slice_get, Some}
use Rattle.drm_arm.specs.declared.arm.Link.{Link}
use Rattle.drm_arm.specs.declared.config.Motion.{Motion}
use Rattle.drm_arm.specs.Arm.{IsArm, reach_of}
use Rattle.drm_arm.specs.Motion.{IsMotion, reversed}
use Rattle.drm_pose.specs.declared.boxes.LinkBox.{LinkBox}
use Rattle.drm_pose.specs.Boxes.{pose_of, piece_of, run_of, tangents_at}
use Rattle.drm_pose.specs.Chain.{Point}
use Rattle.drm_pose.specs.Enclosure.{LiesIn, IsInPart}
use Rattle.drm_pose.specs.Moment.{Moment, IsMoment, IsInPiece, axis_at}
use Rattle.drm_pose.specs.Promises.{EnclosesPiece}
use Rattle.drm_pose.specs.Reach.{Reaches}
use Rattle.drm_pose.specs.Widths.{IsNarrow, IsLeaf, IsInside, IsLinkInside, IsPoseInside}

-- ---- pieces of motions, and parts of links

-- the one piece of depth 0 has every moment
abbrev pub WholeHasEachMoment : Type 0
WholeHasEachMoment = (m : Moment) → IsMoment m → IsInPiece 0 0 m

-- each moment of a piece is one of its first or of its second half
abbrev pub HalvesCover : Type 0
HalvesCover =
    (depth index : ℕ) (m : Moment) → IsInPiece depth index m →
    IsInPiece (depth + 1) (2 * index) m ⊎ IsInPiece (depth + 1) (2 * index + 1) m

-- a piece has the moment at which it begins
abbrev pub PieceHasItsStart : Type 0
PieceHasItsStart = (depth index : ℕ) → index < 2 ^ depth → IsInPiece depth index (record { part = index; whole = 2 ^ depth })

-- each fraction e / f from 0 to 1 lies in one of n equal parts
abbrev pub PartsCover : Type 0
PartsCover = (n e f : ℕ) → 1 ≤ n → 1 ≤ f → e ≤ f → (p : ℕ) × ((p < n) × IsInPart p n e f)

-- a part has the fraction at which it begins
abbrev pub PartHasItsStart : Type 0
PartHasItsStart = (n p : ℕ) → 1 ≤ n → IsInPart p n p n

-- ---- what the boxes of a piece of a motion hold

-- the boxes of a piece hold the arm at each moment of the piece
abbrev pub PosesEnclose : Type 0
PosesEnclose =
    (links : List Link) (motion : Motion) (depth index : ℕ) →
    IsMotion links motion → depth ≤ 20 → EnclosesPiece (pose_of links motion depth index) links motion depth index

-- each link of the arm has boxes
abbrev pub EachLinkHasBoxes : Type 0
EachLinkHasBoxes =
    (links : List Link) (motion : Motion) (depth index k : ℕ) (link : Link) →
    IsMotion links motion → slice_get links k ≡ Some link →
    (box : LinkBox) × (slice_get (pose_of links motion depth index) k ≡ Some box)

-- the box of part p of n of a link holds the points of the link's axis from its fraction p / n to (p + 1) / n
abbrev pub PartsHoldTheAxis : Type 0
PartsHoldTheAxis =
    (links : List Link) (motion : Motion) (depth index : ℕ) (m : Moment) (k : ℕ) (box : LinkBox) (p n e f : ℕ) →
    IsMotion links motion → depth ≤ 20 → IsInPiece depth index m →
    slice_get (pose_of links motion depth index) k ≡ Some box → 1 ≤ n → IsInPart p n e f →
    LiesIn (axis_at links motion m k e f) (piece_of box p n)

-- ---- how wide these boxes are

-- a pose of depth 20 is narrow enough for every grid
abbrev pub DeepPosesAreLeaves : Type 0
DeepPosesAreLeaves =
    (links : List Link) (motion : Motion) (index side : ℕ) →
    IsArm links → IsMotion links motion → 128 ≤ side → IsLeaf side (pose_of links motion 20 index)

-- where a pose is narrow enough, and a link is cut in parts no longer than a sixteenth of the side, the box of a part has
-- sides of at most an eighth of it, and two ulps
abbrev pub PartsOfLeavesAreNarrow : Type 0
PartsOfLeavesAreNarrow =
    (links : List Link) (motion : Motion) (depth index k : ℕ) (link : Link) (box : LinkBox) (p n side : ℕ) →
    IsArm links → slice_get links k ≡ Some link → slice_get (pose_of links motion depth index) k ≡ Some box →
    IsLeaf side (pose_of links motion depth index) → p < n → 16 * link.len ≤ n * side →
    IsNarrow (pos (side * 2 ^ 27 + 2)) (piece_of box p n)

-- ---- the other way round

-- the poses of the reversed motion are those of the motion, the last first
abbrev pub ReversedPoses : Type 0
ReversedPoses =
    (links : List Link) (motion : Motion) (depth i j : ℕ) →
    i + j + 1 ≡ 2 ^ depth → pose_of links (reversed motion) depth j ≡ pose_of links motion depth i

-- ---- ends that pieces share

-- the first half of a piece begins where the piece begins
abbrev pub HalvesShareEnds : Type 0
HalvesShareEnds =
    (motion : Motion) (depth i : ℕ) → depth < 20 →
    tangents_at motion (depth + 1) (2 * i) ≡ tangents_at motion depth i

-- ---- smaller pieces of a motion

-- the boxes of either half of a piece lie in those of the piece
abbrev pub HalvesAreInside : Type 0
HalvesAreInside =
    (links : List Link) (motion : Motion) (depth index : ℕ) → depth < 20 →
    IsPoseInside (pose_of links motion (depth + 1) (2 * index)) (pose_of links motion depth index)
    × IsPoseInside (pose_of links motion (depth + 1) (2 * index + 1)) (pose_of links motion depth index)

-- where a link's boxes lie in others, the box of each piece of the link lies in that of the same piece
abbrev pub PiecesKeepInclusion : Type 0
PiecesKeepInclusion =
    (inner outer : LinkBox) (p n : ℕ) → 1 ≤ n → IsLinkInside inner outer → IsInside (piece_of inner p n) (piece_of outer p n)

-- and so for the box of a run of pieces
abbrev pub RunsKeepInclusion : Type 0
RunsKeepInclusion =
    (inner outer : LinkBox) (p q n : ℕ) → 1 ≤ n → IsLinkInside inner outer → IsInside (run_of inner p q n) (run_of outer p q n)

-- ---- reached points

-- a point that the motion reaches by link k is no farther from the base than the arm's reach, the link's radius and the pad
abbrev pub ReachedIsWithin : Type 0
ReachedIsWithin =
    (links : List Link) (motion : Motion) (m : Moment) (pad : ℕ) (q : Point) (h : Reaches links motion m pad q) →
    ((q.x *ℤ q.x) +ℤ (q.y *ℤ q.y)) ≤ℤ
    ((pos (reach_of links + h.link.radius + pad) *ℤ q.d) *ℤ (pos (reach_of links + h.link.radius + pad) *ℤ q.d))
