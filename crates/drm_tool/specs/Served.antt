-- Which lines of a log the program serves.
use Rattle.std.specs.Prelude.{ℕ, ◌≡◌, ◌+◌, List, All, take, slice_get, Some}
use Rattle.drm_talk.specs.declared.Act.{Act}
use Rattle.drm_talk.specs.declared.Act.TheVariants.{Tick}
use Rattle.drm_talk.specs.declared.Line.{Line}

-- the request is no tick
abbrev pub IsServedAct : Act → Type 0
IsServedAct Tick = ⊥
IsServedAct _ = Unit {0}

-- the line is such a request, of whichever caller
abbrev pub IsServed : Line → Type 0
IsServed line = IsServedAct line.act

-- line i of these, counted from 1, is the first that is not served
pub record IsFirstUnserved (lines : List Line) (i : ℕ) : Type 0 where
  pub before : ℕ
  pub line : Line
  pub at : slice_get lines before ≡ Some line
  pub place : i ≡ before + 1
  pub served : All IsServed (take before lines)
  pub unserved : ¬ IsServed line
