-- What the pieces of links, the links of a pose, and the halves of a motion take out.
use Rattle.std.proofs.Common.{◌≡◌, ◌⊎◌, inl, inr, ◌↔◌, ℕ, zero, suc, ◌+◌, ◌*◌, ◌≤◌, ◌<◌, ◌^◌, pos, ◌≤ℤ◌, Bool, true, false, IsTrue, List, [], ◌∷◌, Option, length, slice_get, Some, refl, sym, subst, ap, ◌∙◌, arith}
use Rattle.std.proofs.lemmas.Option.{slice_get_within}
use Rattle.drm_arm.specs.declared.arm.Link.{Link}
use Rattle.drm_arm.specs.declared.config.Motion.{Motion}
use Rattle.std.proofs.lemmas.Bool.{cases_lt}
use Rattle.std.proofs.lemmas.Int.{ints, clamps}
use Rattle.std.proofs.lemmas.Nat.{pow-add}
use Rattle.drm_num.specs.Interval.{Interval}
use Rattle.drm_num.specs.Arithmetic.{gap}
use Rattle.drm_num.proofs.Integers.{trans, sums}
use Rattle.drm_num.proofs.Distances.{squares_order}
use Rattle.drm_grid.specs.Layout.{Layout, cell_count, row_of, column_of}
use Rattle.drm_grid.specs.Strips.{strip}
use Rattle.drm_grid.specs.Near.{IsNearBox}
use Rattle.drm_pose.specs.declared.boxes.LinkBox.{LinkBox}
use Rattle.drm_pose.specs.declared.boxes.Plate.{Plate}
use Rattle.drm_pose.specs.Boxes.{pose_of, piece_of}
use Rattle.drm_pose.specs.Promises.{HoldsPieces}
use Rattle.drm_pose.specs.Widths.{IsLeaf, IsInside}
use Rattle.drm_sweep.specs.Swept.{pieces_of, IsNearLink, IsNearPose, Sweeps, IsSwept}
use Rattle.drm_sweep.specs.Runs.{IsNearPiece, IsNearRun, IsLinkCut}
use Rattle.drm_sweep.specs.Taken.{TakesOut, HasNone, Among}
use Rattle.drm_sweep.proofs.TakenLemmas.{Has-below, same_kind, one_then_other}

pub same_some : {A : Type 0} (x y : A) (o : Option A) → o ≡ Some x → o ≡ Some y → x ≡ y
same_some x y o a b = cc

-- a cell near a box is near every box that holds it
wider_gap : (a b c : Interval) → b.lo ≤ℤ a.lo → a.hi ≤ℤ b.hi → gap b c ≤ℤ gap a c
wider_gap a b c low high = omega (arith, ints, clamps)

gap_up : (a b : Interval) → pos 0 ≤ℤ gap a b
gap_up a b = omega (arith, ints, clamps)

pub near_wider : (grid : Layout) (inner outer : Plate) (cell far : ℕ) → IsInside inner outer → IsNearBox grid inner.x inner.y cell far → IsNearBox grid outer.x outer.y cell far
near_wider grid inner outer cell far inside near =
    let column = strip grid (column_of grid cell) in
    let row = strip grid (row_of grid cell) in
    record {
      near = trans (sums
          (squares_order (gap_up outer.x column) (wider_gap inner.x outer.x column inside.left inside.right))
          (squares_order (gap_up outer.y row) (wider_gap inner.y outer.y row inside.down inside.up))) near.near;
    }

-- the cells near the box of a piece are those near the piece
pub piece_taken : (grid : Layout) (boxes : List LinkBox) (k n far p : ℕ) (box : LinkBox) (plate : Plate) (s t : List Bool)
    → slice_get boxes k ≡ Some box → plate ≡ piece_of box p n
    → TakesOut (λ cell. IsNearBox grid plate.x plate.y cell far) s t → TakesOut (IsNearPiece grid boxes k n far p) s t
piece_taken grid boxes k n far p box plate s t is_box is_plate taken =
    same_kind (λ cell. IsNearBox grid plate.x plate.y cell far) (IsNearPiece grid boxes k n far p) s t
    (λ cell has. (
      (λ near. record {
        box = box;
        is_box = is_box;
        near = subst (λ (b : Plate). IsNearBox grid b.x b.y cell far) is_plate near;
      }),
      (λ piece.
          let box_is : piece.box ≡ box = same_some piece.box box (slice_get boxes k) piece.is_box is_box in
          let boxed = subst (λ (b : LinkBox). IsNearBox grid (piece_of b p n).x (piece_of b p n).y cell far) box_is piece.near in
          subst (λ (b : Plate). IsNearBox grid b.x b.y cell far) (sym is_plate) boxed),
    ))
    taken

-- where no cell is near the box of a run, none is near a piece of it
pub run_none : (grid : Layout) (boxes : List LinkBox) (k n far first end : ℕ) (plate : Plate) (s : List Bool) → HoldsPieces boxes k first end n plate
    → HasNone (λ cell. IsNearBox grid plate.x plate.y cell far) s → HasNone (Among first end (IsNearPiece grid boxes k n far)) s
run_none grid boxes k n far first end plate s holds none cell has (p, from, below, piece) =
    none cell has (near_wider grid (piece_of piece.box p n) plate cell far (holds piece.box p piece.is_box from below) piece.near)

-- a run after a run
pub runs_taken : (Is : ℕ → ℕ → Type 0) (first middle end : ℕ) (s t u : List Bool) → first ≤ middle → middle ≤ end
    → TakesOut (Among first middle Is) s t → TakesOut (Among middle end Is) t u → TakesOut (Among first end Is) s u
runs_taken Is first middle end s t u before after one other =
    same_kind (λ cell. Among first middle Is cell ⊎ Among middle end Is cell) (Among first end Is) s u
    (λ cell has. (
      (λ either. elim either [
        | inl (j, from, below, is) ↦ (j, from, omega arith, is)
        | inr (j, from, below, is) ↦ (j, omega arith, below, is)
      ]),
      (λ (j, from, below, is). elim (cases_lt j middle) [
        | inl less ↦ inl (j, from, less, is)
        | inr more ↦ inr (j, more, below, is)
      ]),
    ))
    (one_then_other (Among first middle Is) (Among middle end Is) s t u one other)

-- the run of all pieces of a link has the cells near the link
run_is_link : (grid : Layout) (links : List Link) (boxes : List LinkBox) (pad k n far cell : ℕ) → IsLinkCut grid links pad k n far
    → IsNearRun grid boxes k n far 0 n cell ↔ IsNearLink grid links boxes pad k cell
run_is_link grid links boxes pad k n far cell cut = (
  (λ (p, from, below, piece). (
    p,
    record {
      link = cut.link;
      box = piece.box;
      is_link = cut.is_link;
      is_box = piece.is_box;
      in_link = subst (λ (m : ℕ). p < m) cut.count below;
      near = subst (λ (r : ℕ). IsNearBox grid (piece_of piece.box p (pieces_of cut.link.len grid.side)).x (piece_of piece.box p (pieces_of cut.link.len grid.side)).y cell r) cut.reach
          (subst (λ (m : ℕ). IsNearBox grid (piece_of piece.box p m).x (piece_of piece.box p m).y cell far) cut.count piece.near);
    },
  )),
  (λ (p, part).
      let link_is : part.link ≡ cut.link = same_some part.link cut.link (slice_get links k) part.is_link cut.is_link in
      let count : pieces_of part.link.len grid.side ≡ n = ap (λ (l : Link). pieces_of l.len grid.side) link_is ∙ sym cut.count in
      let reach : part.link.radius + pad ≡ far = ap (λ (l : Link). l.radius + pad) link_is ∙ sym cut.reach in (
        p,
        omega arith,
        subst (λ (m : ℕ). p < m) count part.in_link,
        record {
          box = part.box;
          is_box = part.is_box;
          near = subst (λ (m : ℕ). IsNearBox grid (piece_of part.box p m).x (piece_of part.box p m).y cell far) count
              (subst (λ (r : ℕ). IsNearBox grid (piece_of part.box p (pieces_of part.link.len grid.side)).x (piece_of part.box p (pieces_of part.link.len grid.side)).y cell r) reach part.near);
        },
      )),
)

pub link_taken : (grid : Layout) (links : List Link) (boxes : List LinkBox) (pad k n far : ℕ) (s t : List Bool) → IsLinkCut grid links pad k n far
    → TakesOut (IsNearRun grid boxes k n far 0 n) s t → TakesOut (IsNearLink grid links boxes pad k) s t
link_taken grid links boxes pad k n far s t cut taken =
    same_kind (IsNearRun grid boxes k n far 0 n) (IsNearLink grid links boxes pad k) s t (λ cell has. run_is_link grid links boxes pad k n far cell cut) taken

pub link_none : (grid : Layout) (links : List Link) (boxes : List LinkBox) (pad k n far : ℕ) (s : List Bool) → IsLinkCut grid links pad k n far
    → HasNone (IsNearRun grid boxes k n far 0 n) s → HasNone (IsNearLink grid links boxes pad k) s
link_none grid links boxes pad k n far s cut none cell has near = none cell has ((run_is_link grid links boxes pad k n far cell cut).1 near)

-- after the last link, those near the pose
pub pose_taken : (grid : Layout) (links : List Link) (boxes : List LinkBox) (pad count : ℕ) (s t : List Bool) → length links ≤ count
    → TakesOut (Among 0 count (IsNearLink grid links boxes pad)) s t → TakesOut (IsNearPose grid links boxes pad) s t
pose_taken grid links boxes pad count s t all taken =
    same_kind (Among 0 count (IsNearLink grid links boxes pad)) (IsNearPose grid links boxes pad) s t
    (λ cell has. (
      (λ (k, from, below, near). (k, near.0, near.1)),
      (λ (k, p, part). let within = slice_get_within links k part.link part.is_link in (k, omega arith, omega arith, (p, part))),
    ))
    taken

-- a leaf gives the cells near its pose
pub leaf_taken : (grid : Layout) (links : List Link) (motion : Motion) (boxes : List LinkBox) (pad halvings depth index : ℕ) (s t : List Bool) → boxes ≡ pose_of links motion depth index
    → IsLeaf grid.side boxes → TakesOut (IsNearPose grid links boxes pad) s t → TakesOut (λ cell. Sweeps grid links motion pad cell halvings depth index) s t
unfolding Sweeps
leaf_taken grid links motion boxes pad zero depth index s t is leaf taken =
    subst (λ (bs : List LinkBox). TakesOut (IsNearPose grid links bs pad) s t) is taken
leaf_taken grid links motion boxes pad (suc halvings) depth index s t is leaf taken =
    let pose = pose_of links motion depth index in
    let small : IsLeaf grid.side pose = subst (λ (bs : List LinkBox). IsLeaf grid.side bs) is leaf in
    same_kind (IsNearPose grid links pose pad) (λ cell. Sweeps grid links motion pad cell (suc halvings) depth index) s t
    (λ cell has. (
      (λ near. inl (small, near)),
      (λ either. elim either [ inl (_, near) ↦ near | inr (large, _) ↦ absurd (large small) ]),
    ))
    (subst (λ (bs : List LinkBox). TakesOut (IsNearPose grid links bs pad) s t) is taken)

-- any other pose gives what its halves give
pub halves_taken : (grid : Layout) (links : List Link) (motion : Motion) (pad halvings depth index : ℕ) (s t u : List Bool) → ¬ IsLeaf grid.side (pose_of links motion depth index)
    → TakesOut (λ cell. Sweeps grid links motion pad cell halvings (depth + 1) (2 * index)) s t
    → TakesOut (λ cell. Sweeps grid links motion pad cell halvings (depth + 1) (2 * index + 1)) t u
    → TakesOut (λ cell. Sweeps grid links motion pad cell (suc halvings) depth index) s u
unfolding Sweeps
halves_taken grid links motion pad halvings depth index s t u large first second =
    let A = λ (cell : ℕ). Sweeps grid links motion pad cell halvings (depth + 1) (2 * index) in
    let B = λ (cell : ℕ). Sweeps grid links motion pad cell halvings (depth + 1) (2 * index + 1) in
    same_kind (λ cell. A cell ⊎ B cell) (λ cell. Sweeps grid links motion pad cell (suc halvings) depth index) s u
    (λ cell has. (
      (λ either. inr (large, either)),
      (λ gives. elim gives [ inl (small, _) ↦ absurd (large small) | inr (_, either) ↦ either ]),
    ))
    (one_then_other A B s t u first second)

-- the whole motion gives the swept cells
pub motion_taken : (grid : Layout) (links : List Link) (motion : Motion) (pad halvings : ℕ) (s t : List Bool) → halvings ≡ 20 → length s ≡ cell_count grid
    → TakesOut (λ cell. Sweeps grid links motion pad cell halvings 0 0) s t → TakesOut (IsSwept grid links motion pad) s t
unfolding IsSwept
motion_taken grid links motion pad halvings s t all size taken =
    same_kind (λ cell. Sweeps grid links motion pad cell halvings 0 0) (IsSwept grid links motion pad) s t
    (λ cell has.
    let below = Has-below s cell has in (
      (λ gives. (omega arith, subst (λ (h : ℕ). Sweeps grid links motion pad cell h 0 0) all gives)),
      (λ (_, gives). subst (λ (h : ℕ). Sweeps grid links motion pad cell h 0 0) (sym all) gives),
    ))
    taken

-- the element at a place of a list
pub some_at : {A : Type 0} (xs : List A) (k : ℕ) → k < length xs → (x : A) × (slice_get xs k ≡ Some x)
some_at [] k below = absurd (omega arith)
some_at (x ∷ xs) zero below = (x, refl)
some_at (x ∷ xs) (suc k) below = some_at xs k (omega arith)

-- a pose that may be halved gives what its halves give
pub piece_halved : (grid : Layout) (links : List Link) (motion : Motion) (pad halvings depth index : ℕ) (s t u : List Bool) → depth + halvings ≡ 20 → depth < 20
    → ¬ IsLeaf grid.side (pose_of links motion depth index)
    → ((h : ℕ) → depth + 1 + h ≡ 20 → TakesOut (λ cell. Sweeps grid links motion pad cell h (depth + 1) (2 * index)) s t)
    → ((h : ℕ) → depth + 1 + h ≡ 20 → TakesOut (λ cell. Sweeps grid links motion pad cell h (depth + 1) (2 * index + 1)) t u)
    → TakesOut (λ cell. Sweeps grid links motion pad cell halvings depth index) s u
piece_halved grid links motion pad zero depth index s t u all below large first second = absurd (omega arith)
piece_halved grid links motion pad (suc h) depth index s t u all below large first second =
    let rest : depth + 1 + h ≡ 20 = omega arith in
    halves_taken grid links motion pad h depth index s t u large (first h rest) (second h rest)

-- a swept cell is one of the grid
pub swept_below : (grid : Layout) (links : List Link) (motion : Motion) (pad cell : ℕ) → IsSwept grid links motion pad cell → cell < cell_count grid
unfolding IsSwept
swept_below grid links motion pad cell is = is.0

-- a pose that was tested and is no leaf
pub not_leaf : (side : ℕ) (pose boxes : List LinkBox) → boxes ≡ pose → IsTrue false ↔ IsLeaf side boxes → ¬ IsLeaf side pose
not_leaf side pose boxes is tested leaf = let wrong : false ≡ true = tested.1 (subst (λ (bs : List LinkBox). IsLeaf side bs) (sym is) leaf) in absurd (cc)

-- after one more halving there are twice as many pieces
pub halves_fit : (depth index : ℕ) → index < 2 ^ depth → 2 * index + 1 < 2 ^ (depth + 1)
halves_fit depth index within = omega (arith, pow-add 2 depth 1)
