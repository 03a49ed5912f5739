-- Sets from which the cells of a kind were taken out.
use Rattle.std.specs.Prelude.{◌≡◌, ◌⊎◌, ℕ, ◌≤◌, ◌<◌, Bool, List, length}
use Rattle.drm_arm.specs.declared.arm.Link.{Link}
use Rattle.drm_arm.specs.declared.config.Motion.{Motion}
use Rattle.drm_grid.specs.CellSet.{Has}
use Rattle.drm_grid.specs.Layout.{Layout}
use Rattle.drm_pose.specs.declared.boxes.LinkBox.{LinkBox}
use Rattle.drm_sweep.specs.Swept.{IsNearLink, IsSwept}

-- the new set has the cells of the old one that are not of the kind, and no others
pub record TakesOut (Is : ℕ → Type 0) (old new : List Bool) : Type 0 where
  pub size : length new ≡ length old
  pub kept : (cell : ℕ) → Has new cell → Has old cell × (¬ Is cell)
  pub gone : (cell : ℕ) → Has old cell → Has new cell ⊎ Is cell

-- the new set has no cells but those of the old one, and lacks none of these but some of the kind
pub record TakesSome (Is : ℕ → Type 0) (old new : List Bool) : Type 0 where
  pub size : length new ≡ length old
  pub kept : (cell : ℕ) → Has new cell → Has old cell
  pub gone : (cell : ℕ) → Has old cell → Has new cell ⊎ Is cell

-- the set has no cell of the kind
abbrev pub HasNone : (ℕ → Type 0) → List Bool → Type 0
HasNone Is set = (cell : ℕ) → Has set cell → ¬ Is cell

-- the cell is of one of the kinds from a on and below b
abbrev pub Among : ℕ → ℕ → (ℕ → ℕ → Type 0) → ℕ → Type 0
Among a b Is cell = (j : ℕ) × (a ≤ j) × (j < b) × Is j cell

-- the set has the cell, and the motion sweeps it
abbrev pub IsMet : Layout → List Link → Motion → ℕ → List Bool → ℕ → Type 0
IsMet grid links motion pad set cell = Has set cell × IsSwept grid links motion pad cell

-- each link that a cell of the set is near is one of the live links
abbrev pub NearLinksAreLive : Layout → List Link → List LinkBox → ℕ → List Bool → List Bool → Type 0
NearLinksAreLive grid links boxes pad live set = (k cell : ℕ) → Has set cell → IsNearLink grid links boxes pad k cell → Has live k
