-- What a comparison of coordinates with the lines around a cell says.
use Rattle.std.proofs.Common.{◌≡◌, ℕ, ◌+◌, ◌↔◌, Bool, IsTrue, subst, sym}
use Rattle.std.specs.Prelude.{ℤ, ◌≤ℤ◌}
use Rattle.drm_grid.specs.Layout.{Layout, line_at}
use Rattle.drm_grid.specs.Strips.{MeetsStrip}

-- an interval that meets the one between two neighbouring lines reaches the strip between them
pub strip_between : (grid : Layout) (low high start end : ℤ) (k : ℕ) (b : Bool) → start ≡ line_at grid k → end ≡ line_at grid (k + 1)
    → (IsTrue b ↔ ((low ≤ℤ end) × (start ≤ℤ high))) → IsTrue b ↔ MeetsStrip grid low high k
strip_between grid low high start end k b first next says = (
  λ yes. let both = says.0 yes in
      record { starts = subst (λ (z : ℤ). low ≤ℤ z) next both.0; ends = subst (λ (z : ℤ). z ≤ℤ high) first both.1 },
  λ reaches. says.1 (subst (λ (z : ℤ). low ≤ℤ z) (sym next) reaches.starts, subst (λ (z : ℤ). z ≤ℤ high) (sym first) reaches.ends),
)
