-- Lines that are served can be replayed, and what is known of the report.
use Rattle.std.proofs.Common.{ℕ, List, length, take, get_or, sym}
use Rattle.std.specs.Prelude.{ℤ, All, zip}
use Rattle.drm_num.proofs.Lists.{all_second}
use Rattle.drm_talk.specs.declared.Act.{Act}
use Rattle.drm_talk.specs.declared.Act.TheVariants.{Put as ToPut, Ask as ToAsk, Tick as ToTick}
use Rattle.drm_talk.specs.declared.Answer.{Answer}
use Rattle.drm_talk.specs.declared.Entry.{Entry}
use Rattle.drm_talk.specs.declared.Line.{Line}
use Rattle.drm_talk.specs.declared.Reply.{Reply}
use Rattle.drm_talk.specs.declared.Reply.TheVariants.{Ask}
use Rattle.drm_talk.specs.declared.Report.{Report}
use Rattle.drm_script.specs.Log.{IsActInRange, IsLogLine}
use Rattle.drm_sweep.specs.Laws.{IsPassed}
use Rattle.drm_cellmap.specs.Roadmap.{Roadmap, EachStored}
use Rattle.drm_report.specs.Asks.{start_of, goal_of}
use Rattle.drm_plan.specs.AskLaws.{PassedMapsAreNeverUnsound}
use Rattle.drm_report.specs.Laws.{OneCallerIsExact}
use Rattle.drm_report.specs.Planned.{ArePlanned, AreTruthful}
use Rattle.drm_report.specs.Reply.{RightReply}
use Rattle.drm_report.specs.Report.{AreRightReplies, IsRightReport}
use Rattle.drm_plan.specs.Right.{RightAnswer, TellsUnsound}
use Rattle.drm_work.specs.Lines.{IsServable, AreServable, HaveCallers}
use Rattle.drm_tool.specs.Served.{IsServed, IsServedAct}
use Rattle.drm_tool.specs.Replayed.{RepliesUnsound, AreNeverUnsound, IsReplayed}

-- ---- the lines

-- a request of the grammar that is served can be served over the map
act_servable : (map : Roadmap) (act : Act) → IsServedAct act → IsActInRange (length map.arm) act → IsServable map act
act_servable map (ToPut slot shape) served range = range.1
act_servable map (ToAsk start goal) served range = (sym range.0.0, sym range.1.0)
act_servable map ToTick served range = absurd served
act_servable map act served range = tt

pub servable : (map : Roadmap) (lines : List Line) → All IsServed lines → All (IsLogLine (length map.arm)) lines → AreServable map lines
servable map lines served in_grammar k d below =
    let line = get_or lines k d in
    act_servable map line.act (served k d below) (in_grammar k d below).act

-- the grammar has as many callers as a planner may have
pub have_callers : (joints : ℕ) (lines : List Line) → All (IsLogLine joints) lines → HaveCallers lines
have_callers joints lines in_grammar k d below = (in_grammar k d below).caller

-- ---- the report

-- over a map that passes, a right answer tells of no unsound edge
answer_sound : PassedMapsAreNeverUnsound → (map : Roadmap) (front : List Entry) (start goal : List ℤ) (answer : Answer) → EachStored IsPassed map → RightAnswer map front start goal answer → ¬ TellsUnsound answer
answer_sound law map front start goal answer passed (snap, after, right) = law map snap start goal answer after.barred passed right

reply_sound : PassedMapsAreNeverUnsound → (map : Roadmap) (history : List Entry) (caller : ℕ) (act : Act) (reply : Reply) → EachStored IsPassed map → RightReply map history caller act reply → ¬ RepliesUnsound reply
reply_sound law map history caller act (Ask n answer) passed right =
    answer_sound law map (take n history) (start_of act) (goal_of act) answer passed right.told.1.1
reply_sound law map history caller act reply passed right = λ tells. absurd tells

-- so none of the replies does
pub never_unsound : PassedMapsAreNeverUnsound → (map : Roadmap) (lines : List Line) (replies : List Reply) (history : List Entry) → AreRightReplies map lines replies history → EachStored IsPassed map → AreNeverUnsound replies
never_unsound law map lines replies history right passed =
    all_second (λ (reply : Reply). ¬ RepliesUnsound reply) lines replies right.one_each
    (λ k d below.
    let x = get_or (zip lines replies) k d in
    reply_sound law map history x.0.caller x.0.act x.1 passed (right.right k d below))

-- the report that the callers' replies make
pub replayed_over : PassedMapsAreNeverUnsound → OneCallerIsExact → (map : Roadmap) (lines : List Line) (report : Report) (history : List Entry)
    → IsRightReport map lines report history → ArePlanned map history (zip lines report.replies) → AreTruthful map history (zip lines report.replies)
    → IsReplayed map lines report
replayed_over never alone map lines report history right planned truthful = record {
  history = history;
  right = right;
  planned = planned;
  truthful = truthful;
  sound = never_unsound never map lines report.replies history right.replies;
  exact = λ caller all. alone map caller lines report.replies history right.replies all;
}
