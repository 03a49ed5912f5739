-- The line of a report that words spell.
use Rattle.std.specs.Prelude.{ℕ, if◌then◌else◌, Option, None, Some, List, drop, Result, Ok, Err, codes}
use Rattle.drm_talk.specs.declared.Side.{Side}
use Rattle.drm_talk.specs.declared.Side.TheVariants.{Start, Goal}
use Rattle.drm_talk.specs.declared.Why.{Why}
use Rattle.drm_talk.specs.declared.Why.TheVariants.{Barred, Cell}
use Rattle.drm_talk.specs.declared.Tried.{Tried}
use Rattle.drm_talk.specs.declared.End.{End}
use Rattle.drm_talk.specs.declared.Answer.{Answer}
use Rattle.drm_talk.specs.declared.Answer.TheVariants.{Path, Cut, NoStart, NoGoal, Unsound}
use Rattle.drm_talk.specs.declared.Reply.{Reply}
use Rattle.drm_talk.specs.declared.Reply.TheVariants.{Put, Del, Slot, Full, Empty, Count, Absent, Memory, Sync, Limits, TickPut, TickDel, TickIdle, TickShape, TickSlot, TickFull, TickEmpty, Ask}
use Rattle.drm_script.specs.declared.replies.ReportLine.{ReportLine}
use Rattle.drm_script.specs.declared.replies.ReportLine.TheVariants.{Reply as reply, End as end}
use Rattle.drm_script.specs.declared.words.WordFault.{WordFault}
use Rattle.drm_script.specs.declared.words.WordFault.TheVariants.{Bad}
use Rattle.drm_script.specs.Limits.{tried_limit, nodes_limit}
use Rattle.drm_script.specs.Words.{line_of}
use Rattle.drm_script.specs.Reader.{◌>>=◌, starts, ended, Reads, slot_at, wide_at, number_at, pair_at, made_at, counted_at, last_of, then_of}
use Rattle.drm_script.specs.Reading.{shape_of}
use Rattle.drm_script.specs.Report.{reply_words, end_words, IsReplyInRange, IsEndInRange, ShowsValidShape}

-- the words of a line
abbrev pub report_line_words : ReportLine → List (List ℕ)
report_line_words (reply r) = reply_words r
report_line_words (end number nodes edges) = end_words number nodes edges

-- the text of a line
abbrev pub report_line_text : ReportLine → List ℕ
report_line_text line = line_of (report_line_words line)

-- a line that a report may have
abbrev pub IsReportLine : ReportLine → Type 0
IsReportLine (reply r) = IsReplyInRange r
IsReportLine (end number nodes edges) = IsEndInRange number nodes edges

-- the shape of a line, if it has one, is valid
abbrev pub LineHasValidShape : ReportLine → Type 0
LineHasValidShape (reply r) = ShowsValidShape r
LineHasValidShape (end number nodes edges) = Unit {0}

-- one of the configurations of an ask
unfoldable pub side_at : Reads Side
side_at ws =
    if starts (codes "start") ws then Ok (Start, drop 1 ws) else
    if starts (codes "goal") ws then Ok (Goal, drop 1 ws) else
    Err Bad

-- why a node was refused
unfoldable pub why_at : Reads Why
why_at ws =
    if starts (codes "b") ws then Ok (Barred, drop 1 ws) else
    if starts (codes "c") ws then made_at number_at Cell (drop 1 ws) else
    Err Bad

-- a node that was refused
unfoldable pub tried_at : Reads Tried
tried_at ws = made_at (pair_at number_at why_at) (λ x. record { node = x.0; why = x.1 }) ws

-- the nodes that were refused
unfoldable pub all_tried_at : Reads (List Tried)
all_tried_at ws = counted_at tried_limit tried_at ws

-- an end of an ask
unfoldable pub attached_at : Reads End
attached_at ws = made_at (pair_at number_at all_tried_at) (λ x. record { node = x.0; tried = x.1 }) ws

-- some nodes
unfoldable pub nodes_at : Reads (List ℕ)
nodes_at ws = counted_at nodes_limit number_at ws

-- a label
unfoldable pub label_at : Reads (Option ℕ)
label_at ws =
    if starts (codes "-") ws then Ok (None, drop 1 ws) else
    made_at wide_at Some ws

-- the labels
unfoldable pub labels_at : Reads (List (Option ℕ))
labels_at ws = counted_at nodes_limit label_at ws

-- the parts of a path, of a cut, and of an answer that a map is unsound, up to the end of their line
abbrev pub path_of : List (List ℕ) → Result Answer WordFault
path_of ws =
    last_of (pair_at attached_at (pair_at attached_at (pair_at wide_at (pair_at nodes_at labels_at))))
    (λ x. Path x.0 x.1.0 x.1.1.0 x.1.1.1.0 x.1.1.1.1) ws

abbrev pub cut_of : List (List ℕ) → Result Answer WordFault
cut_of ws = last_of (pair_at attached_at (pair_at attached_at nodes_at)) (λ x. Cut x.0 x.1.0 x.1.1) ws

abbrev pub unsound_of : List (List ℕ) → Result Answer WordFault
unsound_of ws =
    last_of (pair_at attached_at (pair_at attached_at (pair_at number_at number_at)))
    (λ x. Unsound x.0 x.1.0 x.1.1.0 x.1.1.1) ws

-- an answer up to the end of its line
unfoldable pub answer_of : List (List ℕ) → Result Answer WordFault
answer_of ws =
    if starts (codes "path") ws then path_of (drop 1 ws) else
    if starts (codes "cut") ws then cut_of (drop 1 ws) else
    if starts (codes "nostart") ws then last_of all_tried_at NoStart (drop 1 ws) else
    if starts (codes "nogoal") ws then last_of all_tried_at NoGoal (drop 1 ws) else
    if starts (codes "unsound") ws then unsound_of (drop 1 ws) else
    Err Bad

-- a reply to a tick, up to the end of its line
unfoldable pub tick_of : List (List ℕ) → Result Reply WordFault
tick_of ws =
    if starts (codes "put") ws then
    then_of (pair_at number_at slot_at) shape_of (λ x shape. TickPut x.0 x.1 shape) (drop 1 ws) else
    if starts (codes "del") ws then last_of (pair_at number_at slot_at) (λ x. TickDel x.0 x.1) (drop 1 ws) else
    if starts (codes "idle") ws then ended (TickIdle, drop 1 ws) else
    if starts (codes "shape") ws then ended (TickShape, drop 1 ws) else
    if starts (codes "slot") ws then ended (TickSlot, drop 1 ws) else
    if starts (codes "full") ws then last_of number_at TickFull (drop 1 ws) else
    if starts (codes "empty") ws then last_of (pair_at number_at slot_at) (λ x. TickEmpty x.0 x.1) (drop 1 ws) else
    Err Bad

-- a reply up to the end of its line
unfoldable pub reply_of : List (List ℕ) → Result Reply WordFault
reply_of ws =
    if starts (codes "put") ws then last_of number_at Put (drop 1 ws) else
    if starts (codes "del") ws then last_of number_at Del (drop 1 ws) else
    if starts (codes "slot") ws then ended (Slot, drop 1 ws) else
    if starts (codes "full") ws then last_of number_at Full (drop 1 ws) else
    if starts (codes "empty") ws then last_of number_at Empty (drop 1 ws) else
    if starts (codes "count") ws then last_of (pair_at number_at number_at) (λ x. Count x.0 x.1) (drop 1 ws) else
    if starts (codes "absent") ws then ended (Absent, drop 1 ws) else
    if starts (codes "memory") ws then ended (Memory, drop 1 ws) else
    if starts (codes "sync") ws then last_of number_at Sync (drop 1 ws) else
    if starts (codes "limits") ws then last_of (pair_at side_at number_at) (λ x. Limits x.0 x.1) (drop 1 ws) else
    if starts (codes "tick") ws then tick_of (drop 1 ws) else
    if starts (codes "ask") ws then then_of number_at answer_of Ask (drop 1 ws) else
    Err Bad

-- a line of a report
unfoldable pub report_line_in : List (List ℕ) → Result ReportLine WordFault
report_line_in ws =
    if starts (codes "end") ws then
    last_of (pair_at number_at (pair_at number_at number_at)) (λ x. end x.0 x.1.0 x.1.1) (drop 1 ws) else (do
      r ← reply_of ws
      Ok (reply r))
