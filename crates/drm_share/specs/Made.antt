-- What the desk counts.
use Rattle.std.specs.Prelude.{◌≡◌, ℕ, ◌<◌, ◌≤◌, List, length, slice_index}
use Rattle.drm_talk.specs.declared.Entry.{Entry}
use Rattle.drm_talk.specs.History.{made_by}
use Rattle.drm_talk.specs.Limits.{full}
use Rattle.drm_share.specs.Limits.{most_callers}

-- the numbers are, caller by caller, how many entries they have in the history, which is not too long
pub record AreMade (history : List Entry) (made : List ℕ) : Type 0 where
  pub within : length history ≤ full
  pub exact : (caller : ℕ) → caller < most_callers → slice_index made caller ≡ made_by caller history
