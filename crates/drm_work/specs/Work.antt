-- What a worker does: it serves the lines of its pass's caller, one after the other.
use Rattle.std.specs.Prelude.{◌≡◌, List, ◌++◌, filter_map, zip}
use Rattle.std.specs.Option.{option_to_list}
use Rattle.drm_talk.specs.Front.{Begins}
use Rattle.drm_talk.specs.Exchange.{accepted}
use Rattle.drm_talk.specs.declared.Act.{Act}
use Rattle.drm_talk.specs.declared.Line.{Line}
use Rattle.drm_talk.specs.declared.Reply.{Reply}
use Rattle.drm_cellmap.specs.Roadmap.{Roadmap}
use Rattle.drm_report.specs.Step.{Serves}
use Rattle.drm_report.specs.Worker.{AreRightOver}
use Rattle.drm_report.specs.Gathering.{lines_of}
use Rattle.drm_report.specs.Planned.{IsPlanned, ArePlanned}
use Rattle.drm_share.specs.Seen.{Seen}

-- the pass serves one line of its caller: the front goes on, the reply is true of it, and an accepted edit is its own
pub record ServesOn (map : Roadmap) (act : Act) (reply : Reply) (before after : Seen) : Type 0 where
  pub caller : after.caller ≡ before.caller
  pub serves : Serves map before.caller act reply before.front after.front
  pub planned : IsPlanned map after.front act reply
  pub own : after.own ≡ before.own ++ option_to_list (accepted reply)

-- the pass has served its caller's lines of the log: the replies are right over its front, each ask's answer is the plan,
-- and its own edits are those that it had and then the accepted ones
pub record WorksThrough (map : Roadmap) (lines : List Line) (replies : List Reply) (before after : Seen) : Type 0 where
  pub caller : after.caller ≡ before.caller
  pub begins : Begins before.front after.front
  pub right : AreRightOver map before.caller (lines_of before.caller lines) replies after.front
  pub planned : ArePlanned map after.front (zip (lines_of before.caller lines) replies)
  pub own : after.own ≡ before.own ++ filter_map accepted replies
