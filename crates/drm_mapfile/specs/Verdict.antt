-- What a check of the stored sweeps finds.
use Rattle.std.specs.Prelude.{◌≡◌, ◌↔◌, ℕ, ◌/◌, ◌<◌, List, Bool, Contains, Option, Some, None}
use Rattle.drm_grid.specs.CellSet.{Has, IsLeast}
use Rattle.drm_road.specs.Road.{motion_of}
use Rattle.drm_sweep.specs.Swept.{IsSwept}
use Rattle.drm_sweep.specs.Laws.{IsPassed}
use Rattle.drm_talk.specs.declared.Element.{Element}
use Rattle.drm_cellmap.specs.Roadmap.{Roadmap, IsElement, place_of, stored}
use Rattle.drm_mapfile.specs.declared.judging.MapVerdict.{MapVerdict}
use Rattle.drm_mapfile.specs.declared.judging.MapVerdict.TheVariants.{Passed, Lacks, Loose}

-- the cell is swept by the element's motion with the pad
abbrev pub SweptBy : Roadmap → Element → ℕ → ℕ → Type 0
SweptBy map e pad cell = IsSwept map.grid map.arm (motion_of map.road e) pad cell

-- the stored sweep of the element passes
abbrev pub Passes : Roadmap → Element → Type 0
Passes map e = IsPassed map.grid map.arm (motion_of map.road e) (stored map e)

-- the cell is swept without a pad, and not stored
abbrev pub Lacking : Roadmap → Element → ℕ → Type 0
Lacking map e cell = (¬ Contains (stored map e) cell) × SweptBy map e 0 cell

-- the cell is stored, and not swept with half of the side as pad
abbrev pub TooMuch : Roadmap → Element → ℕ → Type 0
TooMuch map e cell = Contains (stored map e) cell × (¬ SweptBy map e (map.grid.side / 2) cell)

-- every cell that is swept without a pad is stored
abbrev pub HoldsAll : Roadmap → Element → Type 0
HoldsAll map e = (cell : ℕ) → SweptBy map e 0 cell → Contains (stored map e) cell

-- no cell is stored but those that are swept with half of the side as pad
abbrev pub HoldsNoMore : Roadmap → Element → Type 0
HoldsNoMore map e = (cell : ℕ) → Contains (stored map e) cell → SweptBy map e (map.grid.side / 2) cell

-- the least cell that is lacking, or none where none is
abbrev pub FindsLacking : Roadmap → Element → Option ℕ → Type 0
FindsLacking map e None = HoldsAll map e
FindsLacking map e (Some cell) = IsLeast (Lacking map e) (Some cell)

-- the least cell that is too much, or none where none is
abbrev pub FindsTooMuch : Roadmap → Element → Option ℕ → Type 0
FindsTooMuch map e None = HoldsNoMore map e
FindsTooMuch map e (Some cell) = IsLeast (TooMuch map e) (Some cell)

-- the set has exactly the stored cells
abbrev pub IsStoredSet : Roadmap → Element → List Bool → Type 0
IsStoredSet map e set = (cell : ℕ) → Has set cell ↔ Contains (stored map e) cell

-- what is found of the element: it passes; or it lacks a cell, and this is the least one; or it lacks none and has one
-- too much, and this is the least one
abbrev pub Judges : Roadmap → Element → MapVerdict → Type 0
Judges map e Passed = Passes map e
Judges map e (Lacks named cell) = (named ≡ e) × IsLeast (Lacking map e) (Some cell)
Judges map e (Loose named cell) = (named ≡ e) × HoldsAll map e × IsLeast (TooMuch map e) (Some cell)

-- every element before the place passes
abbrev pub AllPassBefore : Roadmap → ℕ → Type 0
AllPassBefore map place = (e : Element) → IsElement map e → place_of map e < place → Passes map e

-- the element is the first that does not pass, and the verdict is what is found of it
pub record IsFirstAtFault (map : Roadmap) (verdict : MapVerdict) (e : Element) : Type 0 where
  pub there : IsElement map e
  pub before : AllPassBefore map (place_of map e)
  pub found : Judges map e verdict

-- the verdict is that of the map: all elements pass, or what is found of the first that does not
abbrev pub IsVerdict : Roadmap → MapVerdict → Type 0
IsVerdict map Passed = (e : Element) → IsElement map e → Passes map e
IsVerdict map (Lacks e cell) = IsFirstAtFault map (Lacks e cell) e
IsVerdict map (Loose e cell) = IsFirstAtFault map (Loose e cell) e
