-- A motion that sweeps no occupied cell touches nothing that stands in occupied cells, and swept cells are near.
use Rattle.std.proofs.Common.{◌≡◌, ℕ, suc, ◌+◌, ◌/◌, ◌<◌, ◌⊎◌, inl, inr, true, false, Bool, List, [], ◌∷◌, ◌++◌, slice_get, Option, None, Some, IfSome, refl, subst, arith}
use Rattle.std.specs.Prelude.{ℤ, All, if◌then◌else◌, ◌==◌, slice_index_or}
use Rattle.std.proofs.lemmas.Option.{slice_get-get_or}
use Rattle.std.proofs.lemmas.List.Elements.{All-get_or}
use Rattle.drm_arm.specs.declared.arm.Link.{Link}
use Rattle.drm_arm.specs.declared.config.Motion.{Motion}
use Rattle.drm_arm.specs.Config.{IsConfig}
use Rattle.drm_arm.specs.Motion.{IsMotion}
use Rattle.drm_shape.specs.declared.Shape.{Shape}
use Rattle.drm_shape.specs.Validity.{IsValid}
use Rattle.drm_foot.specs.Laws.{HeldPointsAreInFoot}
use Rattle.drm_talk.specs.History.{IsLegal, Stands, shape_after}
use Rattle.drm_talk.specs.declared.Entry.{Entry}
use Rattle.drm_talk.specs.declared.Element.TheVariants.{Edge}
use Rattle.drm_road.specs.Road.{node_of, motion_of}
use Rattle.drm_sweep.specs.Near.{IsNear}
use Rattle.drm_sweep.specs.Taken.{IsMet}
use Rattle.drm_sweep.specs.Laws.{IsScene, NearCellsAreSwept, SweptCellsAreNear, ReachedPointsAreInCells}
use Rattle.drm_cellmap.specs.Elements.{node_count, edge_count}
use Rattle.drm_cellmap.specs.Roadmap.{Roadmap, IsRoadmap}
use Rattle.drm_cellmap.specs.Snapshot.{Snapshot}
use Rattle.drm_attach.specs.declared.ends.Way.{Way}
use Rattle.drm_attach.specs.declared.ends.Way.TheVariants.{Out, Home}
use Rattle.drm_attach.specs.Attached.{joining_motion}
use Rattle.drm_after.specs.After.{IsSnapAfter}
use Rattle.drm_plan.specs.Touches.{Touches, IsCovered, ComesNear}

-- ---- what stands is valid

-- which of two contents a slot has
chosen : (b : Bool) (new old : Option Shape) (shape : Shape) → (if b then new else old) ≡ Some shape → (new ≡ Some shape) ⊎ (old ≡ Some shape)
chosen true new old shape is = inl is
chosen false new old shape is = inr is

-- a shape that a slot holds at last was there before, or an entry put it there
put_by : (before : Option Shape) (slot : ℕ) (entries : List Entry) (shape : Shape) → shape_after before slot entries ≡ Some shape
    → (before ≡ Some shape) ⊎ ((n : ℕ) × (entry : Entry) × (slice_get entries n ≡ Some entry) × (entry.shape ≡ Some shape))
put_by before slot [] shape is = inl is
put_by before slot (entry ∷ entries) shape is =
    elim (put_by (if entry.slot == slot then entry.shape else before) slot entries shape is) [
      | inl here ↦ elim (chosen (entry.slot == slot) entry.shape before shape here) [
        | inl put ↦ inr (0, entry, refl, put)
        | inr old ↦ inl old
      ]
      | inr (n, other, at, put) ↦ inr (suc n, other, at, put)
    ]

pub standing_is_valid : (history : List Entry) (shape : Shape) → IsLegal history → Stands history shape → IsValid shape
standing_is_valid history shape legal (slot, holds) =
    elim (put_by None slot history shape holds) [
      | inl none ↦ absurd cc
      | inr (n, entry, at, put) ↦ subst (λ (o : Option Shape). IfSome o IsValid) put (legal n entry at).shape
    ]

-- ---- configurations

pub node_config : (map : Roadmap) → IsRoadmap map → (node : ℕ) → node < node_count map.road → IsConfig map.arm (node_of map.road node)
node_config map limits node inside = All-get_or (IsConfig map.arm) map.road.nodes node [] inside limits.nodes

pub joining_is_motion : (map : Roadmap) → IsRoadmap map → (at : List ℤ) (way : Way) (node : ℕ) → IsConfig map.arm at → node < node_count map.road → IsMotion map.arm (joining_motion map.road at way node)
joining_is_motion map limits at Out node config inside = record { from = config; to = node_config map limits node inside }
joining_is_motion map limits at Home node config inside = record { from = node_config map limits node inside; to = config }

pub edge_is_motion : (map : Roadmap) → IsRoadmap map → (edge : ℕ) → edge < edge_count map.road → IsMotion map.arm (motion_of map.road (Edge edge))
edge_is_motion map limits edge inside =
    let ends = slice_index_or map.road.edges edge (0, 0) in
    let order = limits.road.ends edge ends.0 ends.1 (slice_get-get_or map.road.edges edge (0, 0) inside) in
    record { from = node_config map limits ends.0 (omega (arith, order.0, order.1)); to = node_config map limits ends.1 order.1 }

pub scene_of : (map : Roadmap) (motion : Motion) → IsRoadmap map → IsMotion map.arm motion → IsScene map.grid map.arm motion
scene_of map motion limits is_motion = record { is_grid = limits.grid; is_arm = limits.arm; is_motion = is_motion }

-- an element between two lists
pub in_seam : (P : ℕ → Type 0) (xs : List ℕ) (y : ℕ) (ys : List ℕ) → All P (xs ++ y ∷ ys) → P y
in_seam P [] y ys all = All-get_or P (y ∷ ys) 0 y (omega arith) all
in_seam P (x ∷ xs) y ys all = in_seam P xs y ys (λ k d below. all (suc k) d (omega arith))

-- ---- touching

-- what stands after a legal history is covered by the cells of the snapshot
pub standing_is_covered : (map : Roadmap) (history : List Entry) (snap : Snapshot) (shape : Shape) → IsLegal history → IsSnapAfter map history snap → Stands history shape → IsCovered map snap shape
standing_is_covered map history snap shape legal after stands = record {
  valid = standing_is_valid history shape legal stands;
  within = λ cell foot. (after.occupied cell).1 (shape, stands, foot);
}

-- a motion that sweeps no occupied cell touches nothing that these cells cover
pub clear_touches_nothing : ReachedPointsAreInCells → NearCellsAreSwept → HeldPointsAreInFoot
    → (map : Roadmap) (snap : Snapshot) (motion : Motion) → IsRoadmap map → IsMotion map.arm motion
    → ((cell : ℕ) → ¬ IsMet map.grid map.arm motion 0 snap.occupied cell) → ¬ Touches map.arm motion (IsCovered map snap)
clear_touches_nothing in_cells swept in_foot map snap motion limits is_motion clear touches =
    let point = touches.point in
    let some = in_cells map.grid map.arm motion touches.moment point limits.grid limits.fits touches.reached in
    let near : IsNear map.grid map.arm motion 0 some.cell = record { in_grid = some.in_grid; moment = touches.moment; point = point; reached = touches.reached; inside = some.inside } in
    let foot = in_foot map.grid touches.shape some.cell point.x point.y point.d some.in_grid touches.standing.valid touches.reached.proper some.inside touches.held in
    clear some.cell (touches.standing.within some.cell foot, swept map.grid map.arm motion 0 some.cell (scene_of map motion limits is_motion) near)

-- a motion that touches something touches it whatever else is said of it
pub touches_more : (links : List Link) (motion : Motion) (P Q : Shape → Type 0) → ((shape : Shape) → P shape → Q shape) → Touches links motion P → Touches links motion Q
touches_more links motion P Q gives touches = record {
  moment = touches.moment;
  point = touches.point;
  shape = touches.shape;
  reached = touches.reached;
  standing = gives touches.shape touches.standing;
  held = touches.held;
}

-- a motion comes near each occupied cell that it sweeps
pub met_is_near : SweptCellsAreNear → (map : Roadmap) (history : List Entry) (snap : Snapshot) (motion : Motion) (cell : ℕ)
    → IsRoadmap map → IsMotion map.arm motion → IsSnapAfter map history snap
    → IsMet map.grid map.arm motion 0 snap.occupied cell → ComesNear map history motion cell
met_is_near swept_near map history snap motion cell limits is_motion after (occupied, swept) =
    let none : 0 + map.grid.side / 4 ≡ map.grid.side / 4 = omega arith in
    record {
      near = subst (λ (pad : ℕ). IsNear map.grid map.arm motion pad cell) none (swept_near map.grid map.arm motion 0 cell (scene_of map motion limits is_motion) swept);
      occupied = (after.occupied cell).0 occupied;
    }
