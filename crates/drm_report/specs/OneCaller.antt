-- What more is known where all lines are one caller's: the numbers are exact.
use Rattle.std.specs.Prelude.{ℕ, ◌≡◌, ◌+◌, List, take, slice_get, Some, filter_map}
use Rattle.std.specs.List.{range_with_len}
use Rattle.drm_talk.specs.Exchange.{named, accepted}
use Rattle.drm_talk.specs.declared.Reply.{Reply}
use Rattle.drm_report.specs.Worker.{edits_in}

-- each named length is the number of edits accepted up to its line, its own included
pub record NamesExactly (replies : List Reply) : Type 0 where
  -- the accepted edits have the numbers 1, 2, 3 and so on, in this order
  pub in_order : filter_map accepted replies ≡ range_with_len 1 (edits_in replies)
  pub exact : (i n : ℕ) (reply : Reply) → slice_get replies i ≡ Some reply → named reply ≡ Some n → n ≡ edits_in (take (i + 1) replies)
