-- The rows, or columns, of a grid as closed strips between its lines, and those that an interval reaches.
use Rattle.std.specs.Prelude.{ℕ, ◌+◌, ◌<◌, ◌≤◌, ℤ, pos, ◌*ℤ◌, ◌≤ℤ◌}
use Rattle.std.specs.declared.ops.Range.{Range}
use Rattle.drm_num.specs.Interval.{Interval, unit}
use Rattle.drm_num.specs.Arithmetic.{gap}
use Rattle.drm_grid.specs.Layout.{Layout, line_at}

-- the k-th strip, in ulps
abbrev pub strip : Layout → ℕ → Interval
strip grid k = record { lo = line_at grid k *ℤ unit; hi = line_at grid (k + 1) *ℤ unit }

-- the closed interval from low to high, in workspace units, meets the closed k-th strip
pub record MeetsStrip (grid : Layout) (low high : ℤ) (k : ℕ) : Type 0 where
  pub starts : low ≤ℤ line_at grid (k + 1)
  pub ends : line_at grid k ≤ℤ high

-- the k-th strip is at most `far` units from the interval
abbrev pub IsStripNear : Layout → Interval → ℕ → ℕ → Type 0
IsStripNear grid x far k = gap x (strip grid k) ≤ℤ (pos far *ℤ unit)

-- the range is in order, and ends at n at most
pub record IsRangeUpTo (n : ℕ) (range : Range ℕ) : Type 0 where
  pub ordered : range.start ≤ range.end
  pub within : range.end ≤ n

-- the number is one of the range
pub record IsBetween (range : Range ℕ) (k : ℕ) : Type 0 where
  pub from_start : range.start ≤ k
  pub before_end : k < range.end
