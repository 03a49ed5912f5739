-- What the callers were told, before it is put into the order of the log.
use Rattle.std.specs.Prelude.{ℕ, ◌≡◌, ◌<◌, List, length, map, All, slice_get, Some}
use Rattle.std.specs.declared.alloc.Global.{Global}
use Rattle.std.specs.declared.vec.Vec.{Vec}
use Rattle.drm_talk.specs.declared.Line.{Line}
use Rattle.drm_talk.specs.declared.Reply.{Reply}
use Rattle.drm_report.specs.Gathering.{lines_of}

-- what each caller was told, as lists
abbrev pub rows_of : List (Vec Reply Global) → List (List Reply)
rows_of told = map (λ row. row.items) told

-- all lines are of callers that were told replies, and each of these was told one for each of its lines
pub record AreTold (lines : List Line) (told : List (List Reply)) : Type 0 where
  pub callers : All (λ line. line.caller < length told) lines
  pub one_each : (caller : ℕ) (mine : List Reply) → slice_get told caller ≡ Some mine → length mine ≡ length (lines_of caller lines)
