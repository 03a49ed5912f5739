-- Where some cells are taken ahead, the rest is taken after them.
use Rattle.std.proofs.Common.{◌≡◌, inl, inr, ℕ, zero, suc, ◌+◌, ◌*◌, ◌<◌, Bool, List, length, refl, ◌∙◌, subst, arith}
use Rattle.drm_arm.specs.declared.arm.Link.{Link}
use Rattle.drm_arm.specs.declared.config.Motion.{Motion}
use Rattle.drm_grid.specs.CellSet.{Has}
use Rattle.drm_grid.specs.Layout.{Layout, cell_count}
use Rattle.drm_pose.specs.Boxes.{pose_of}
use Rattle.drm_pose.specs.Widths.{IsLeaf}
use Rattle.drm_sweep.specs.Swept.{Sweeps, IsSwept}
use Rattle.drm_sweep.specs.Taken.{TakesOut, TakesSome}
use Rattle.drm_sweep.proofs.TakenLemmas.{Has-below}

pub none_ahead : (Is : ℕ → Type 0) (s : List Bool) → TakesSome Is s s
none_ahead Is s = record { size = refl; kept = λ cell has. has; gone = λ cell has. inl has }

pub all_ahead : (Is : ℕ → Type 0) (s t : List Bool) → TakesOut Is s t → TakesSome Is s t
all_ahead Is s t taken = record { size = taken.size; kept = λ cell has. (taken.kept cell has).0; gone = taken.gone }

pub some_of_more : (A B : ℕ → Type 0) (s t : List Bool) → ((cell : ℕ) → Has s cell → A cell → B cell) → TakesSome A s t → TakesSome B s t
some_of_more A B s t more taken = record {
  size = taken.size;
  kept = taken.kept;
  gone = λ cell has. elim (taken.gone cell has) [ inl left ↦ inl left | inr is ↦ inr (more cell has is) ];
}

pub some_then_some : (Is : ℕ → Type 0) (s t u : List Bool) → TakesSome Is s t → TakesSome Is t u → TakesSome Is s u
some_then_some Is s t u first second = record {
  size = second.size ∙ first.size;
  kept = λ cell has. first.kept cell (second.kept cell has);
  gone = λ cell has. elim (first.gone cell has) [ inl left ↦ second.gone cell left | inr is ↦ inr is ];
}

pub some_then_all : (Is : ℕ → Type 0) (s t u : List Bool) → TakesSome Is s t → TakesOut Is t u → TakesOut Is s u
some_then_all Is s t u first second = record {
  size = second.size ∙ first.size;
  kept = λ cell has. let both = second.kept cell has in (first.kept cell both.0, both.1);
  gone = λ cell has. elim (first.gone cell has) [ inl left ↦ second.gone cell left | inr is ↦ inr is ];
}

-- ---- halves

first_of_halves : (grid : Layout) (links : List Link) (motion : Motion) (pad halvings depth index : ℕ) (s t : List Bool) → ¬ IsLeaf grid.side (pose_of links motion depth index)
    → TakesSome (λ cell. Sweeps grid links motion pad cell halvings (depth + 1) (2 * index)) s t → TakesSome (λ cell. Sweeps grid links motion pad cell (suc halvings) depth index) s t
unfolding Sweeps
first_of_halves grid links motion pad halvings depth index s t large taken =
    some_of_more (λ cell. Sweeps grid links motion pad cell halvings (depth + 1) (2 * index)) (λ cell. Sweeps grid links motion pad cell (suc halvings) depth index) s t
    (λ cell has gives. inr (large, inl gives)) taken

second_of_halves : (grid : Layout) (links : List Link) (motion : Motion) (pad halvings depth index : ℕ) (s t : List Bool) → ¬ IsLeaf grid.side (pose_of links motion depth index)
    → TakesSome (λ cell. Sweeps grid links motion pad cell halvings (depth + 1) (2 * index + 1)) s t → TakesSome (λ cell. Sweeps grid links motion pad cell (suc halvings) depth index) s t
unfolding Sweeps
second_of_halves grid links motion pad halvings depth index s t large taken =
    some_of_more (λ cell. Sweeps grid links motion pad cell halvings (depth + 1) (2 * index + 1)) (λ cell. Sweeps grid links motion pad cell (suc halvings) depth index) s t
    (λ cell has gives. inr (large, inr gives)) taken

-- some cells of a half are some of a pose that may be halved
pub some_of_first : (grid : Layout) (links : List Link) (motion : Motion) (pad halvings depth index : ℕ) (s t : List Bool) → depth + halvings ≡ 20 → depth < 20 → ¬ IsLeaf grid.side (pose_of links motion depth index)
    → ((h : ℕ) → depth + 1 + h ≡ 20 → TakesSome (λ cell. Sweeps grid links motion pad cell h (depth + 1) (2 * index)) s t)
    → TakesSome (λ cell. Sweeps grid links motion pad cell halvings depth index) s t
some_of_first grid links motion pad zero depth index s t all below large first = absurd (omega arith)
some_of_first grid links motion pad (suc h) depth index s t all below large first =
    let rest : depth + 1 + h ≡ 20 = omega arith in
    first_of_halves grid links motion pad h depth index s t large (first h rest)

pub some_of_second : (grid : Layout) (links : List Link) (motion : Motion) (pad halvings depth index : ℕ) (s t : List Bool) → depth + halvings ≡ 20 → depth < 20 → ¬ IsLeaf grid.side (pose_of links motion depth index)
    → ((h : ℕ) → depth + 1 + h ≡ 20 → TakesSome (λ cell. Sweeps grid links motion pad cell h (depth + 1) (2 * index + 1)) s t)
    → TakesSome (λ cell. Sweeps grid links motion pad cell halvings depth index) s t
some_of_second grid links motion pad zero depth index s t all below large second = absurd (omega arith)
some_of_second grid links motion pad (suc h) depth index s t all below large second =
    let rest : depth + 1 + h ≡ 20 = omega arith in
    second_of_halves grid links motion pad h depth index s t large (second h rest)

-- some cells that the whole motion gives are some of the swept cells
pub motion_ahead : (grid : Layout) (links : List Link) (motion : Motion) (pad halvings : ℕ) (s t : List Bool) → halvings ≡ 20 → length s ≡ cell_count grid
    → TakesSome (λ cell. Sweeps grid links motion pad cell halvings 0 0) s t → TakesSome (IsSwept grid links motion pad) s t
unfolding IsSwept
motion_ahead grid links motion pad halvings s t all size taken =
    some_of_more (λ cell. Sweeps grid links motion pad cell halvings 0 0) (IsSwept grid links motion pad) s t
    (λ cell has gives.
    let below = Has-below s cell has in
    (omega arith, subst (λ (h : ℕ). Sweeps grid links motion pad cell h 0 0) all gives))
    taken
