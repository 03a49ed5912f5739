-- Which links stay live: a cell that is near a piece of a link in the pose of a half is near it in the pose of the whole.
use Rattle.std.proofs.Common.{◌≡◌, inl, inr, ℕ, zero, suc, ◌+◌, ◌*◌, ◌≤◌, ◌<◌, Bool, true, false, List, [], ◌∷◌, length, replicate, slice_set, slice_get, Some, refl, subst, sym, ap, arith}
use Rattle.std.proofs.lemmas.Bool.{cases_lt}
use Rattle.std.proofs.lemmas.Option.{slice_get_within}
use Rattle.drm_arm.specs.declared.arm.Link.{Link}
use Rattle.drm_arm.specs.declared.config.Motion.{Motion}
use Rattle.drm_arm.specs.Motion.{IsMotion}
use Rattle.drm_grid.specs.CellSet.{Has}
use Rattle.drm_grid.specs.Layout.{Layout}
use Rattle.drm_pose.specs.declared.boxes.LinkBox.{LinkBox}
use Rattle.drm_pose.specs.Boxes.{pose_of, piece_of}
use Rattle.drm_pose.specs.Laws.{EachLinkHasBoxes, HalvesAreInside, PiecesKeepInclusion}
use Rattle.drm_pose.specs.Widths.{IsPoseInside}
use Rattle.drm_sweep.specs.Swept.{pieces_of, IsNearLink, IsNearPose, Sweeps}
use Rattle.drm_sweep.specs.Taken.{TakesOut, HasNone, NearLinksAreLive}
use Rattle.drm_sweep.proofs.TakenLemmas.{Has-full, nothing_taken}
use Rattle.drm_sweep.proofs.PoseLemmas.{near_wider}

-- ---- flags

Has-set_other : (set : List Bool) (at c : ℕ) (v : Bool) → (c ≡ at → ⊥) → Has set c → Has (slice_set set at v) c
Has-set_other [] at c v other has = absurd (cc)
Has-set_other (x ∷ xs) zero zero v other has = absurd (other refl)
Has-set_other (x ∷ xs) zero (suc c) v other has = has
Has-set_other (x ∷ xs) (suc at) zero v other has = has
Has-set_other (x ∷ xs) (suc at) (suc c) v other has = Has-set_other xs at c v (λ e. other (ap suc e)) has

Has-set_here : (set : List Bool) (at : ℕ) → at < length set → Has (slice_set set at true) at
Has-set_here [] at below = absurd (omega arith)
Has-set_here (x ∷ xs) zero below = refl
Has-set_here (x ∷ xs) (suc at) below = Has-set_here xs at (omega arith)

-- of the links below m, those that a cell of the set is near are live
abbrev pub AreLiveBelow : Layout → List Link → List LinkBox → ℕ → ℕ → List Bool → List Bool → Type 0
AreLiveBelow grid links boxes pad m live set = (k cell : ℕ) → k < m → Has set cell → IsNearLink grid links boxes pad k cell → Has live k

pub none_live : (grid : Layout) (links : List Link) (boxes : List LinkBox) (pad : ℕ) (live set : List Bool) → AreLiveBelow grid links boxes pad 0 live set
none_live grid links boxes pad live set k cell below has near = absurd (omega arith)

pub one_more_live : (grid : Layout) (links : List Link) (boxes : List LinkBox) (pad m : ℕ) (live set : List Bool) (v : Bool) → m < length live → AreLiveBelow grid links boxes pad m live set → (v ≡ false → HasNone (IsNearLink grid links boxes pad m) set)
    → AreLiveBelow grid links boxes pad (m + 1) (slice_set live m v) set
one_more_live grid links boxes pad m live set v room so_far closed k cell below has near =
    elim (cases_lt k m) [
      | inl less ↦ Has-set_other live m k v (omega arith) (so_far k cell less has near)
      | inr more ↦
          let last : k ≡ m = omega arith in
          here v closed last
    ]
  where
    here : (w : Bool) → (w ≡ false → HasNone (IsNearLink grid links boxes pad m) set) → k ≡ m → Has (slice_set live m w) k
    here true closed last = subst (λ (j : ℕ). Has (slice_set live m true) j) (sym last) (Has-set_here live m room)
    here false closed last = absurd (closed refl cell has (subst (λ (j : ℕ). IsNearLink grid links boxes pad j cell) last near))

pub all_live : (grid : Layout) (links : List Link) (boxes : List LinkBox) (pad m : ℕ) (live set : List Bool) → length links ≤ m → AreLiveBelow grid links boxes pad m live set → NearLinksAreLive grid links boxes pad live set
all_live grid links boxes pad m live set all so_far k cell has (p, part) =
    let within = slice_get_within links k part.link part.is_link in
    so_far k cell (omega arith) has (p, part)

-- at first all links are live
pub first_live : (grid : Layout) (links : List Link) (boxes : List LinkBox) (pad n : ℕ) (set : List Bool) → length links ≤ n → NearLinksAreLive grid links boxes pad (replicate n true) set
first_live grid links boxes pad n set few k cell has (p, part) =
    let within = slice_get_within links k part.link part.is_link in
    Has-full n k (omega arith)

-- a smaller set is near no other links
pub still_live_after : (grid : Layout) (links : List Link) (boxes : List LinkBox) (pad : ℕ) (live s t : List Bool) (Is : ℕ → Type 0) → TakesOut Is s t → NearLinksAreLive grid links boxes pad live s → NearLinksAreLive grid links boxes pad live t
still_live_after grid links boxes pad live s t Is taken known k cell has near = known k cell (taken.kept cell has).0 near

-- there is nothing to take near a link that is not live
pub closed_link : (grid : Layout) (links : List Link) (boxes : List LinkBox) (pad k : ℕ) (live s : List Bool) → NearLinksAreLive grid links boxes pad live s → (Has live k → ⊥) → TakesOut (IsNearLink grid links boxes pad k) s s
closed_link grid links boxes pad k live s known closed =
    nothing_taken (IsNearLink grid links boxes pad k) s (λ cell has near. closed (known k cell has near))

-- ---- halves

-- a cell near a link's piece is near the same piece in the larger pose
pub near_larger : (grid : Layout) (links : List Link) (inner outer : List LinkBox) (pad k cell : ℕ) → PiecesKeepInclusion → IsPoseInside inner outer
    → ((j : ℕ) (link : Link) → slice_get links j ≡ Some link → (box : LinkBox) × (slice_get outer j ≡ Some box))
    → IsNearLink grid links inner pad k cell → IsNearLink grid links outer pad k cell
near_larger grid links inner outer pad k cell pieces inside boxes (p, part) =
    let (box, is_box) = boxes k part.link part.is_link in
    let n = pieces_of part.link.len grid.side in
    let in_link = part.in_link in
    let some : 1 ≤ pieces_of part.link.len grid.side = omega arith in (
      p,
      record {
        link = part.link;
        box = box;
        is_link = part.is_link;
        is_box = is_box;
        in_link = part.in_link;
        near = near_wider grid (piece_of part.box p n) (piece_of box p n) cell (part.link.radius + pad) (pieces part.box box p n some (inside k part.box box part.is_box is_box)) part.near;
      },
    )

-- the laws of the halves of a piece of a motion
pub record HalfLaws : Type 0 where
  pub halves : HalvesAreInside
  pub pieces : PiecesKeepInclusion
  pub boxes : EachLinkHasBoxes

near_of_first : HalfLaws → (grid : Layout) (links : List Link) (motion : Motion) (pad depth index k cell : ℕ) → IsMotion links motion → depth < 20
    → IsNearLink grid links (pose_of links motion (depth + 1) (2 * index)) pad k cell → IsNearLink grid links (pose_of links motion depth index) pad k cell
near_of_first laws grid links motion pad depth index k cell fits below near =
    near_larger grid links (pose_of links motion (depth + 1) (2 * index)) (pose_of links motion depth index) pad k cell laws.pieces (laws.halves links motion depth index below).0
    (λ j link. laws.boxes links motion depth index j link fits) near

near_of_second : HalfLaws → (grid : Layout) (links : List Link) (motion : Motion) (pad depth index k cell : ℕ) → IsMotion links motion → depth < 20
    → IsNearLink grid links (pose_of links motion (depth + 1) (2 * index + 1)) pad k cell → IsNearLink grid links (pose_of links motion depth index) pad k cell
near_of_second laws grid links motion pad depth index k cell fits below near =
    near_larger grid links (pose_of links motion (depth + 1) (2 * index + 1)) (pose_of links motion depth index) pad k cell laws.pieces (laws.halves links motion depth index below).1
    (λ j link. laws.boxes links motion depth index j link fits) near

-- so what is live over the whole is enough for each half
pub live_for_first : HalfLaws → (grid : Layout) (links : List Link) (motion : Motion) (pad depth index : ℕ) (live set : List Bool) → IsMotion links motion → depth < 20
    → NearLinksAreLive grid links (pose_of links motion depth index) pad live set → NearLinksAreLive grid links (pose_of links motion (depth + 1) (2 * index)) pad live set
live_for_first laws grid links motion pad depth index live set fits below known k cell has near =
    known k cell has (near_of_first laws grid links motion pad depth index k cell fits below near)

pub live_for_second : HalfLaws → (grid : Layout) (links : List Link) (motion : Motion) (pad depth index : ℕ) (live set : List Bool) → IsMotion links motion → depth < 20
    → NearLinksAreLive grid links (pose_of links motion depth index) pad live set → NearLinksAreLive grid links (pose_of links motion (depth + 1) (2 * index + 1)) pad live set
live_for_second laws grid links motion pad depth index live set fits below known k cell has near =
    known k cell has (near_of_second laws grid links motion pad depth index k cell fits below near)

-- each cell that a piece of the motion gives is near its pose
pub given_near_pose : HalfLaws → (grid : Layout) (links : List Link) (motion : Motion) (pad cell halvings depth index : ℕ) → IsMotion links motion → depth + halvings ≡ 20
    → Sweeps grid links motion pad cell halvings depth index → IsNearPose grid links (pose_of links motion depth index) pad cell
unfolding Sweeps
given_near_pose laws grid links motion pad cell zero depth index fits all near = near
given_near_pose laws grid links motion pad cell (suc h) depth index fits all (inl (small, near)) = near
given_near_pose laws grid links motion pad cell (suc h) depth index fits all (inr (large, inl first)) =
    let below : depth < 20 = omega arith in
    let rest : depth + 1 + h ≡ 20 = omega arith in
    let near = given_near_pose laws grid links motion pad cell h (depth + 1) (2 * index) fits rest first in
    let larger = near_of_first laws grid links motion pad depth index near.0 cell fits below (near.1, near.2) in
    (near.0, larger.0, larger.1)
given_near_pose laws grid links motion pad cell (suc h) depth index fits all (inr (large, inr second)) =
    let below : depth < 20 = omega arith in
    let rest : depth + 1 + h ≡ 20 = omega arith in
    let near = given_near_pose laws grid links motion pad cell h (depth + 1) (2 * index + 1) fits rest second in
    let larger = near_of_second laws grid links motion pad depth index near.0 cell fits below (near.1, near.2) in
    (near.0, larger.0, larger.1)

-- where no link is live, there is nothing to take
pub all_closed : HalfLaws → (grid : Layout) (links : List Link) (motion : Motion) (pad halvings depth index : ℕ) (live s : List Bool) → IsMotion links motion → depth + halvings ≡ 20
    → NearLinksAreLive grid links (pose_of links motion depth index) pad live s → ((k : ℕ) → ¬ Has live k)
    → TakesOut (λ cell. Sweeps grid links motion pad cell halvings depth index) s s
all_closed laws grid links motion pad halvings depth index live s fits all known closed =
    nothing_taken (λ cell. Sweeps grid links motion pad cell halvings depth index) s
    (λ cell has gives.
    let near = given_near_pose laws grid links motion pad cell halvings depth index fits all gives in
    closed near.0 (known near.0 cell has (near.1, near.2)))
