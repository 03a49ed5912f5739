-- What the laws of poses and of cells give for swept cells.
use Rattle.std.proofs.Common.{◌≡◌, ◌⊎◌, inl, inr, ℕ, zero, suc, ◌+◌, ◌-◌, ◌*◌, ◌/◌, ◌^◌, ◌≤◌, ◌<◌, ◌↔◌, pos, ◌*ℤ◌, ◌≤ℤ◌, List, slice_get, Some, refl, sym, subst, arith}
use Rattle.std.proofs.lemmas.Int.{ints, by_lt_z}
use Rattle.std.proofs.lemmas.Nat.{pow-add, le-div, div-add-mod', mod_below}
use Rattle.drm_arm.specs.declared.arm.Link.{Link}
use Rattle.drm_arm.specs.declared.config.Motion.{Motion}
use Rattle.drm_arm.specs.Motion.{IsMotion, reversed}
use Rattle.drm_grid.specs.Layout.{Layout, IsGrid, IsInCell, cell_count}
use Rattle.drm_grid.specs.Laws.{PointsNearMakeCellNear, CellNearHasPointsNear}
use Rattle.drm_pose.specs.declared.boxes.LinkBox.{LinkBox}
use Rattle.drm_pose.specs.Boxes.{pose_of, piece_of, spread_of}
use Rattle.drm_pose.specs.Chain.{Point}
use Rattle.drm_pose.specs.Moment.{Moment, IsInPiece, axis_at}
use Rattle.drm_pose.specs.Laws.{WholeHasEachMoment, HalvesCover, PartsCover, EachLinkHasBoxes, PartsHoldTheAxis, ReversedPoses, PieceHasItsStart, PartHasItsStart, PartsOfLeavesAreNarrow}
use Rattle.drm_pose.specs.Reach.{Reaches, AreNear}
use Rattle.drm_pose.specs.Widths.{IsLeaf}
use Rattle.drm_arm.specs.Arm.{IsArm}
use Rattle.drm_num.specs.Interval.{unit}
use Rattle.drm_num.proofs.IntervalLemmas.{Lies-ordered}
use Rattle.drm_sweep.proofs.FarLemmas.{near_far}
use Rattle.drm_sweep.specs.Near.{IsNear}
use Rattle.drm_sweep.specs.Swept.{pieces_of, IsNearPose, Sweeps, IsSwept}

-- ---- halves, and the other way round

same_halves : (A B C D : Type 0) → A ↔ D → B ↔ C → (A ⊎ B) ↔ (C ⊎ D)
same_halves A B C D ad bc = (
  (λ either. elim either [ inl a ↦ inr (ad.0 a) | inr b ↦ inl (bc.0 b) ]),
  (λ either. elim either [ inl x ↦ inr (bc.1 x) | inr d ↦ inl (ad.1 d) ]),
)

pub sweeps_reversed : ReversedPoses → (grid : Layout) (links : List Link) (motion : Motion) (pad cell halvings depth i j : ℕ) → i + j + 1 ≡ 2 ^ depth
    → Sweeps grid links motion pad cell halvings depth i ↔ Sweeps grid links (reversed motion) pad cell halvings depth j
unfolding Sweeps
sweeps_reversed law grid links motion pad cell zero depth i j whole =
    let same = law links motion depth i j whole in
    (subst (λ (bs : List LinkBox). IsNearPose grid links bs pad cell) (sym same), subst (λ (bs : List LinkBox). IsNearPose grid links bs pad cell) same)
sweeps_reversed law grid links motion pad cell (suc h) depth i j whole =
    let same = law links motion depth i j whole in
    let twice = pow-add 2 depth 1 in
    let first = sweeps_reversed law grid links motion pad cell h (depth + 1) (2 * i) (2 * j + 1) (omega arith) in
    let second = sweeps_reversed law grid links motion pad cell h (depth + 1) (2 * i + 1) (2 * j) (omega arith) in
    let both = same_halves _ _ _ _ first second in
    let Leaf = λ (bs : List LinkBox). IsLeaf grid.side bs in
    let Near = λ (bs : List LinkBox). IsNearPose grid links bs pad cell in (
      (λ gives. elim gives [
        | inl (leaf, near) ↦ inl (subst Leaf (sym same) leaf, subst Near (sym same) near)
        | inr (large, halves) ↦ inr ((λ leaf. large (subst Leaf same leaf)), both.0 halves)
      ]),
      (λ gives. elim gives [
        | inl (leaf, near) ↦ inl (subst Leaf same leaf, subst Near same near)
        | inr (large, halves) ↦ inr ((λ leaf. large (subst Leaf (sym same) leaf)), both.1 halves)
      ]),
    )

pub swept_reversed : ReversedPoses → (grid : Layout) (links : List Link) (motion : Motion) (pad cell : ℕ) → IsSwept grid links motion pad cell ↔ IsSwept grid links (reversed motion) pad cell
unfolding IsSwept
swept_reversed law grid links motion pad cell =
    let same = sweeps_reversed law grid links motion pad cell 20 0 0 0 refl in
    ((λ (below, gives). (below, same.0 gives)), (λ (below, gives). (below, same.1 gives)))

-- ---- near cells are swept

-- a link that is not empty has a piece
pub some_piece : (len side : ℕ) → 1 ≤ len → 1 ≤ side → 1 ≤ pieces_of len side
some_piece len side some positive = le-div 1 (16 * len + (side - 1)) side positive (omega arith)

-- a cell that holds a point which is reached at a moment of a piece is near the pose of the piece
pub near_pose : PartsCover → EachLinkHasBoxes → PartsHoldTheAxis → PointsNearMakeCellNear → (grid : Layout) (links : List Link) (motion : Motion) (pad cell depth index : ℕ) (m : Moment) (q : Point)
    → IsMotion links motion → depth ≤ 20 → IsInPiece depth index m → 1 ≤ grid.side → ((k : ℕ) (link : Link) → slice_get links k ≡ Some link → 1 ≤ link.len)
    → Reaches links motion m pad q → IsInCell grid cell q.x q.y q.d → IsNearPose grid links (pose_of links motion depth index) pad cell
near_pose cover boxes hold points grid links motion pad cell depth index m q is_motion shallow in_piece side_up longs reached inside =
    let n = pieces_of reached.link.len grid.side in
    let some = some_piece reached.link.len grid.side (longs reached.k reached.link reached.is_link) side_up in
    let (p, part) = cover n reached.e reached.f some reached.fraction reached.on_axis in
    let (box, is_box) = boxes links motion depth index reached.k reached.link is_motion reached.is_link in
    let axis = hold links motion depth index m reached.k box p n reached.e reached.f is_motion shallow in_piece is_box some part.1 in
    let w = axis_at links motion m reached.k reached.e reached.f in (
      reached.k,
      p,
      record {
        link = reached.link;
        box = box;
        is_link = reached.is_link;
        is_box = is_box;
        in_link = part.0;
        near = points grid (piece_of box p n).x (piece_of box p n).y cell (reached.link.radius + pad) q.x q.y q.d w.x w.y w.d (record {
          proper = reached.proper;
          in_cell = inside;
          in_box_across = axis.x;
          in_box_up = axis.y;
          within = record { near = reached.near.near };
        });
      },
    )

-- so it is swept by each piece that has the moment
pub near_sweeps : HalvesCover → (grid : Layout) (links : List Link) (motion : Motion) (pad cell : ℕ) (m : Moment)
    → ((depth index : ℕ) → depth ≤ 20 → IsInPiece depth index m → IsNearPose grid links (pose_of links motion depth index) pad cell)
    → (halvings depth index : ℕ) → depth + halvings ≡ 20 → IsInPiece depth index m → Sweeps grid links motion pad cell halvings depth index
unfolding Sweeps
near_sweeps halve grid links motion pad cell m near zero depth index all in_piece = near depth index (omega arith) in_piece
near_sweeps halve grid links motion pad cell m near (suc h) depth index all in_piece =
    by_lt_z (pos (grid.side * 2 ^ 26)) (spread_of (pose_of links motion depth index))
    (λ large. inr (
      (λ leaf. absurd (omega (arith, ints))),
      elim (halve depth index m in_piece) [
        | inl first ↦ inl (near_sweeps halve grid links motion pad cell m near h (depth + 1) (2 * index) (omega arith) first)
        | inr second ↦ inr (near_sweeps halve grid links motion pad cell m near h (depth + 1) (2 * index + 1) (omega arith) second)
      ],
    ))
    (λ small. inl (small, near depth index (omega arith) in_piece))

pub near_swept : HalvesCover → WholeHasEachMoment → (grid : Layout) (links : List Link) (motion : Motion) (pad cell : ℕ) (m : Moment)
    → ((depth index : ℕ) → depth ≤ 20 → IsInPiece depth index m → IsNearPose grid links (pose_of links motion depth index) pad cell)
    → IsInPiece 0 0 m → cell < cell_count grid → IsSwept grid links motion pad cell
unfolding IsSwept
near_swept halve whole grid links motion pad cell m near in_piece in_grid = (in_grid, near_sweeps halve grid links motion pad cell m near 20 0 0 refl in_piece)

-- ---- swept cells are near

-- a leaf of the motion that gives the cell
pub record IsGivenBy (grid : Layout) (links : List Link) (motion : Motion) (pad cell depth index : ℕ) : Type 0 where
  pub shallow : depth ≤ 20
  pub in_motion : index < 2 ^ depth
  pub leaf : IsLeaf grid.side (pose_of links motion depth index)
  pub near : IsNearPose grid links (pose_of links motion depth index) pad cell

pub given_by : (grid : Layout) (links : List Link) (motion : Motion) (pad cell : ℕ) → ((index : ℕ) → IsLeaf grid.side (pose_of links motion 20 index))
    → (halvings depth index : ℕ) → depth + halvings ≡ 20 → index < 2 ^ depth → Sweeps grid links motion pad cell halvings depth index
    → (d : ℕ) × (i : ℕ) × IsGivenBy grid links motion pad cell d i
unfolding Sweeps
given_by grid links motion pad cell deepest zero depth index all within near =
    let deep : 20 ≡ depth = omega arith in
    (depth, index, record { shallow = omega arith; in_motion = within; leaf = subst (λ (d : ℕ). IsLeaf grid.side (pose_of links motion d index)) deep (deepest index); near = near })
given_by grid links motion pad cell deepest (suc h) depth index all within gives = elim gives [
  | inl (leaf, near) ↦ (depth, index, record { shallow = omega arith; in_motion = within; leaf = leaf; near = near })
  | inr (large, halves) ↦
      let twice = pow-add 2 depth 1 in
      elim halves [
        | inl first ↦ given_by grid links motion pad cell deepest h (depth + 1) (2 * index) (omega arith) (omega arith) first
        | inr second ↦ given_by grid links motion pad cell deepest h (depth + 1) (2 * index + 1) (omega arith) (omega arith) second
      ]
]

pub swept_given_by : (grid : Layout) (links : List Link) (motion : Motion) (pad cell : ℕ) → ((index : ℕ) → IsLeaf grid.side (pose_of links motion 20 index))
    → IsSwept grid links motion pad cell → (cell < cell_count grid) × ((d : ℕ) × (i : ℕ) × IsGivenBy grid links motion pad cell d i)
unfolding IsSwept
swept_given_by grid links motion pad cell deepest (in_grid, gives) = (in_grid, given_by grid links motion pad cell deepest 20 0 0 refl (omega arith) gives)

-- the pieces cover the link
pub pieces_cover : (len side : ℕ) → 1 ≤ side → 16 * len ≤ pieces_of len side * side
pieces_cover len side some = let whole = div-add-mod' (16 * len + (side - 1)) side in let rest = mod_below (16 * len + (side - 1)) side some in omega arith

-- the motion comes within a quarter of the side more of a cell that a leaf gives
pub leaf_near : PieceHasItsStart → PartHasItsStart → PartsHoldTheAxis → PartsOfLeavesAreNarrow → CellNearHasPointsNear → (grid : Layout) (links : List Link) (motion : Motion) (pad cell depth index : ℕ)
    → IsGrid grid → IsArm links → IsMotion links motion → ((k : ℕ) (link : Link) → slice_get links k ≡ Some link → 1 ≤ link.len) → cell < cell_count grid
    → IsGivenBy grid links motion pad cell depth index → IsNear grid links motion (pad + grid.side / 4) cell
leaf_near start part_start hold narrow_law points grid links motion pad cell depth index is_grid is_arm is_motion longs in_grid given =
    let (k, p, part) = given.near in
    let n = pieces_of part.link.len grid.side in
    let m : Moment = record { part = index; whole = 2 ^ depth } in
    let least = is_grid.side.least in
    let by_eight = is_grid.side.by_eight in
    let some = some_piece part.link.len grid.side (longs k part.link part.is_link) (omega arith) in
    let in_piece = start depth index given.in_motion in
    let axis = hold links motion depth index m k part.box p n p n is_motion given.shallow in_piece part.is_box some (part_start n p some) in
    let plate = piece_of part.box p n in
    let narrow = narrow_law links motion depth index k part.link part.box p n grid.side is_arm part.is_link part.is_box given.leaf part.in_link (pieces_cover part.link.len grid.side (omega arith)) in
    let ordered_x = Lies-ordered axis.x in
    let ordered_y = Lies-ordered axis.y in
    let (x, y, d, u, v, e, pair) = points grid plate.x plate.y cell (part.link.radius + pad) ordered_x ordered_y part.near in
    let w = axis_at links motion m k p n in
    let quarter : 4 * (grid.side / 4) ≡ grid.side = omega arith in
    let small : (pos 3 *ℤ pos (grid.side * 2 ^ 27 + 2)) ≤ℤ (pos 2 *ℤ (pos (grid.side / 4) *ℤ unit)) = omega (arith, ints) in
    let reach : part.link.radius + pad + grid.side / 4 ≡ part.link.radius + (pad + grid.side / 4) = omega arith in
    let far = near_far x y d u v e w.x w.y w.d (pos (grid.side * 2 ^ 27 + 2)) (part.link.radius + pad) (grid.side / 4) plate.x plate.y pair.proper pair.within pair.in_box_across axis.x pair.in_box_up axis.y narrow.x narrow.y small in
    record {
      in_grid = in_grid;
      moment = m;
      point = record { x = x; y = y; d = d };
      reached = record {
        moment = in_piece.moment;
        proper = pair.proper;
        k = k;
        link = part.link;
        e = p;
        f = n;
        is_link = part.is_link;
        fraction = some;
        on_axis = let below = part.in_link in omega arith;
        near = subst (λ (r : ℕ). AreNear (record { x = x; y = y; d = d }) w r) reach (record { near = far });
      };
      inside = pair.in_cell;
    }
