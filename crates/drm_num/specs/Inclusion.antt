-- One interval in another, and what each operation keeps of it: smaller intervals give a smaller interval.
use Rattle.std.specs.Prelude.{◌↔◌, ℤ, pos, ◌≤ℤ◌}
use Rattle.drm_num.specs.Fraction.{Fraction}
use Rattle.drm_num.specs.Interval.{Interval, IsOrdered, Lies, Overlaps}
use Rattle.drm_num.specs.Arithmetic.{sum, difference, scaled, common_part, hull, width, gap, product_sum, product_difference}

-- the ends of the inner interval stand in order, and between those of the outer one
pub record IsIncluded (inner outer : Interval) : Type 0 where
  pub low : outer.lo ≤ℤ inner.lo
  pub ordered : inner.lo ≤ℤ inner.hi
  pub high : inner.hi ≤ℤ outer.hi

-- so it is exactly where each number of the inner interval lies in the outer one
abbrev pub InclusionIsOfNumbers : Type 0
InclusionIsOfNumbers =
    (inner outer : Interval) → IsOrdered inner →
    IsIncluded inner outer ↔ ((x : Fraction) → Lies x inner → Lies x outer)

-- ---- what each operation gives of a and b lies in what it gives of the wider intervals A and B

abbrev pub SumsKeepInclusion : Type 0
SumsKeepInclusion =
    (a b A B : Interval) → IsIncluded a A → IsIncluded b B → IsIncluded (sum a b) (sum A B)

abbrev pub DifferencesKeepInclusion : Type 0
DifferencesKeepInclusion =
    (a b A B : Interval) → IsIncluded a A → IsIncluded b B → IsIncluded (difference a b) (difference A B)

-- for a factor that is not negative
abbrev pub MultiplesKeepInclusion : Type 0
MultiplesKeepInclusion =
    (k : ℤ) (a A : Interval) → pos 0 ≤ℤ k → IsIncluded a A → IsIncluded (scaled k a) (scaled k A)

-- where a and b have a common part
abbrev pub CommonPartsKeepInclusion : Type 0
CommonPartsKeepInclusion =
    (a b A B : Interval) → Overlaps a b → IsIncluded a A → IsIncluded b B → IsIncluded (common_part a b) (common_part A B)

abbrev pub HullsKeepInclusion : Type 0
HullsKeepInclusion =
    (a b A B : Interval) → IsIncluded a A → IsIncluded b B → IsIncluded (hull a b) (hull A B)

-- with the rounding
abbrev pub ProductSumsKeepInclusion : Type 0
ProductSumsKeepInclusion =
    (a b c d A B C D : Interval) →
    IsIncluded a A → IsIncluded b B → IsIncluded c C → IsIncluded d D →
    IsIncluded (product_sum a b c d) (product_sum A B C D)

abbrev pub ProductDifferencesKeepInclusion : Type 0
ProductDifferencesKeepInclusion =
    (a b c d A B C D : Interval) →
    IsIncluded a A → IsIncluded b B → IsIncluded c C → IsIncluded d D →
    IsIncluded (product_difference a b c d) (product_difference A B C D)

-- ---- a smaller interval is no wider, and smaller intervals are no nearer to each other

abbrev pub WidthsRise : Type 0
WidthsRise = (a A : Interval) → IsIncluded a A → width a ≤ℤ width A

abbrev pub GapsFall : Type 0
GapsFall = (a b A B : Interval) → IsIncluded a A → IsIncluded b B → gap A B ≤ℤ gap a b
