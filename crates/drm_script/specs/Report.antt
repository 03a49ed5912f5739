-- The text of a report: one line for each reply, and the end line.
use Rattle.std.specs.Prelude.{ℕ, ◌≡◌, ◌≢◌, ◌+◌, ◌<◌, ◌⊎◌, Option, None, Some, List, [], ◌∷◌, ◌++◌, length, All, flat_map, codes, decimal}
use Rattle.drm_shape.specs.Validity.{IsValid}
use Rattle.drm_talk.specs.declared.Side.{Side}
use Rattle.drm_talk.specs.declared.Side.TheVariants.{Start, Goal}
use Rattle.drm_talk.specs.declared.Why.{Why}
use Rattle.drm_talk.specs.declared.Why.TheVariants.{Barred, Cell}
use Rattle.drm_talk.specs.declared.Tried.{Tried}
use Rattle.drm_talk.specs.declared.End.{End}
use Rattle.drm_talk.specs.declared.Answer.{Answer}
use Rattle.drm_talk.specs.declared.Answer.TheVariants.{Path, Cut, NoStart, NoGoal, Unsound}
use Rattle.drm_talk.specs.declared.Reply.{Reply}
use Rattle.drm_talk.specs.declared.Reply.TheVariants.{Put, Del, Slot, Full, Empty, Count, Absent, Memory, Sync, Limits, TickPut, TickDel, TickIdle, TickShape, TickSlot, TickFull, TickEmpty, Ask}
use Rattle.drm_talk.specs.declared.Report.{Report}
use Rattle.drm_script.specs.Limits.{slot_limit, number_limit, wide_limit, tried_limit, nodes_limit}
use Rattle.drm_script.specs.Words.{line_of}
use Rattle.drm_script.specs.Log.{shape_words, number_words}
use Rattle.drm_script.specs.declared.ReportFault.{ReportFault}
use Rattle.drm_script.specs.declared.ReportFault.TheVariants.{Line as bad_line, Memory as no_memory}

-- the words of so many values, behind their number
abbrev pub counted_words : {X : Type 0} → (X → List (List ℕ)) → List X → List (List ℕ)
counted_words words_of xs = decimal (length xs) ∷ flat_map words_of xs

-- the words of one of the configurations of an ask
abbrev pub side_words : Side → List (List ℕ)
side_words Start = codes "start" ∷ []
side_words Goal = codes "goal" ∷ []

-- the words of why a node was refused
abbrev pub why_words : Why → List (List ℕ)
why_words Barred = codes "b" ∷ []
why_words (Cell cell) = codes "c" ∷ decimal cell ∷ []

-- the words of a node that was refused
abbrev pub tried_words : Tried → List (List ℕ)
tried_words tried = decimal tried.node ∷ why_words tried.why

-- the words of an end of an ask: its attachment, and the nodes that were refused before
abbrev pub attached_words : End → List (List ℕ)
attached_words end = decimal end.node ∷ counted_words tried_words end.tried

-- the words of a label: a node that has none has a dash
abbrev pub label_words : Option ℕ → List (List ℕ)
label_words (Some length) = decimal length ∷ []
label_words None = codes "-" ∷ []

-- the words of an answer
abbrev pub answer_words : Answer → List (List ℕ)
answer_words (Path start goal length nodes labels) =
    codes "path" ∷ (attached_words start ++ (attached_words goal ++ (decimal length ∷ (counted_words number_words nodes ++ counted_words label_words labels))))
answer_words (Cut start goal side) = codes "cut" ∷ (attached_words start ++ (attached_words goal ++ counted_words number_words side))
answer_words (NoStart tried) = codes "nostart" ∷ counted_words tried_words tried
answer_words (NoGoal tried) = codes "nogoal" ∷ counted_words tried_words tried
answer_words (Unsound start goal edge cell) =
    codes "unsound" ∷ (attached_words start ++ (attached_words goal ++ (decimal edge ∷ decimal cell ∷ [])))

-- the words of a reply
abbrev pub reply_words : Reply → List (List ℕ)
reply_words (Put n) = codes "put" ∷ decimal n ∷ []
reply_words (Del n) = codes "del" ∷ decimal n ∷ []
reply_words Slot = codes "slot" ∷ []
reply_words (Full n) = codes "full" ∷ decimal n ∷ []
reply_words (Empty n) = codes "empty" ∷ decimal n ∷ []
reply_words (Count n k) = codes "count" ∷ decimal n ∷ decimal k ∷ []
reply_words Absent = codes "absent" ∷ []
reply_words Memory = codes "memory" ∷ []
reply_words (Sync n) = codes "sync" ∷ decimal n ∷ []
reply_words (Limits side joint) = codes "limits" ∷ (side_words side ++ decimal joint ∷ [])
reply_words (TickPut n slot shape) = codes "tick" ∷ codes "put" ∷ decimal n ∷ decimal slot ∷ shape_words shape
reply_words (TickDel n slot) = codes "tick" ∷ codes "del" ∷ decimal n ∷ decimal slot ∷ []
reply_words TickIdle = codes "tick" ∷ codes "idle" ∷ []
reply_words TickShape = codes "tick" ∷ codes "shape" ∷ []
reply_words TickSlot = codes "tick" ∷ codes "slot" ∷ []
reply_words (TickFull n) = codes "tick" ∷ codes "full" ∷ decimal n ∷ []
reply_words (TickEmpty n slot) = codes "tick" ∷ codes "empty" ∷ decimal n ∷ decimal slot ∷ []
reply_words (Ask n answer) = codes "ask" ∷ decimal n ∷ answer_words answer

-- the words of an answer in brief, which leaves its certificate out
abbrev pub brief_answer_words : Answer → List (List ℕ)
brief_answer_words (Path start goal length nodes labels) = codes "path" ∷ decimal start.node ∷ decimal goal.node ∷ decimal length ∷ []
brief_answer_words (Cut start goal side) = codes "cut" ∷ decimal start.node ∷ decimal goal.node ∷ []
brief_answer_words (NoStart tried) = codes "nostart" ∷ []
brief_answer_words (NoGoal tried) = codes "nogoal" ∷ []
brief_answer_words (Unsound start goal edge cell) = codes "unsound" ∷ decimal edge ∷ decimal cell ∷ []

-- the words of a reply in brief
abbrev pub brief_words : Reply → List (List ℕ)
brief_words (Ask n answer) = codes "ask" ∷ decimal n ∷ brief_answer_words answer
brief_words reply = reply_words reply

-- the text of a reply
abbrev pub reply_text : Reply → List ℕ
reply_text reply = line_of (reply_words reply)

-- the words of the end line: the number of accepted edits, and the barred nodes and edges after them
abbrev pub end_words : ℕ → ℕ → ℕ → List (List ℕ)
end_words number nodes edges = codes "end" ∷ decimal number ∷ decimal nodes ∷ decimal edges ∷ []

-- the end line
abbrev pub end_text : ℕ → ℕ → ℕ → List ℕ
end_text number nodes edges = line_of (end_words number nodes edges)

-- the full text of a report, which reading gives back
abbrev pub full_text : Report → List ℕ
full_text report = flat_map reply_text report.replies ++ end_text report.number report.nodes report.edges

-- the text of a reply in brief
abbrev pub brief_reply_text : Reply → List ℕ
brief_reply_text reply = line_of (brief_words reply)

-- the brief text of a report
abbrev pub brief_text : Report → List ℕ
brief_text report = flat_map brief_reply_text report.replies ++ end_text report.number report.nodes report.edges

-- the numbers of a refused node are in range
abbrev pub IsWhyInRange : Why → Type 0
IsWhyInRange Barred = Unit {0}
IsWhyInRange (Cell cell) = cell < number_limit

abbrev pub IsTriedInRange : Tried → Type 0
IsTriedInRange tried = (tried.node < number_limit) × IsWhyInRange tried.why

-- so many nodes may have been refused, and their numbers are in range
abbrev pub AreTriedInRange : List Tried → Type 0
AreTriedInRange tried = (length tried < tried_limit) × All IsTriedInRange tried

-- the numbers of an end of an ask are in range
abbrev pub IsAttachedInRange : End → Type 0
IsAttachedInRange end = (end.node < number_limit) × AreTriedInRange end.tried

-- there may be so many nodes, and their numbers are in range
abbrev pub AreNodesInRange : List ℕ → Type 0
AreNodesInRange nodes = (length nodes < nodes_limit) × All (λ n. n < number_limit) nodes

-- a label is in range
abbrev pub IsLabelInRange : Option ℕ → Type 0
IsLabelInRange (Some length) = length < wide_limit
IsLabelInRange None = Unit {0}

-- there may be so many labels, and they are in range
abbrev pub AreLabelsInRange : List (Option ℕ) → Type 0
AreLabelsInRange labels = (length labels < nodes_limit) × All IsLabelInRange labels

-- the numbers of an answer are in range
abbrev pub IsAnswerInRange : Answer → Type 0
IsAnswerInRange (Path start goal length nodes labels) =
    IsAttachedInRange start × IsAttachedInRange goal × (length < wide_limit) × AreNodesInRange nodes × AreLabelsInRange labels
IsAnswerInRange (Cut start goal side) = IsAttachedInRange start × IsAttachedInRange goal × AreNodesInRange side
IsAnswerInRange (NoStart tried) = AreTriedInRange tried
IsAnswerInRange (NoGoal tried) = AreTriedInRange tried
IsAnswerInRange (Unsound start goal edge cell) =
    IsAttachedInRange start × IsAttachedInRange goal × (edge < number_limit) × (cell < number_limit)

-- the numbers of a reply are in range, and its shape, if it has one, is valid
abbrev pub IsReplyInRange : Reply → Type 0
IsReplyInRange (Put n) = n < number_limit
IsReplyInRange (Del n) = n < number_limit
IsReplyInRange Slot = Unit {0}
IsReplyInRange (Full n) = n < number_limit
IsReplyInRange (Empty n) = n < number_limit
IsReplyInRange (Count n k) = (n < number_limit) × (k < number_limit)
IsReplyInRange Absent = Unit {0}
IsReplyInRange Memory = Unit {0}
IsReplyInRange (Sync n) = n < number_limit
IsReplyInRange (Limits side joint) = joint < number_limit
IsReplyInRange (TickPut n slot shape) = (n < number_limit) × (slot < slot_limit) × IsValid shape
IsReplyInRange (TickDel n slot) = (n < number_limit) × (slot < slot_limit)
IsReplyInRange TickIdle = Unit {0}
IsReplyInRange TickShape = Unit {0}
IsReplyInRange TickSlot = Unit {0}
IsReplyInRange (TickFull n) = n < number_limit
IsReplyInRange (TickEmpty n slot) = (n < number_limit) × (slot < slot_limit)
IsReplyInRange (Ask n answer) = (n < number_limit) × IsAnswerInRange answer

-- the shape of a reply, if it has one, is valid
abbrev pub ShowsValidShape : Reply → Type 0
ShowsValidShape (TickPut n slot shape) = IsValid shape
ShowsValidShape _ = Unit {0}

-- the numbers of an end line are in range
abbrev pub IsEndInRange : ℕ → ℕ → ℕ → Type 0
IsEndInRange number nodes edges = (number < number_limit) × (nodes < number_limit) × (edges < number_limit)

-- the bytes are the text of this report
pub record IsReport (bytes : List ℕ) (report : Report) : Type 0 where
  pub text : bytes ≡ full_text report
  pub in_grammar : All IsReplyInRange report.replies
  pub end : IsEndInRange report.number report.nodes report.edges

-- neither a reply nor an end line stands at the front of these bytes
pub record BeginsWithNoReportLine (bytes : List ℕ) : Type 0 where
  pub reply : (reply : Reply) (more : List ℕ) → IsReplyInRange reply → bytes ≡ reply_text reply ++ more → ⊥
  pub end : (number nodes edges : ℕ) (more : List ℕ) → IsEndInRange number nodes edges → bytes ≡ end_text number nodes edges ++ more → ⊥

-- an end line stands at the front of these bytes, and something behind it
pub record BeginsWithEndAndMore (bytes : List ℕ) : Type 0 where
  pub number : ℕ
  pub nodes : ℕ
  pub edges : ℕ
  pub more : List ℕ
  pub text : bytes ≡ end_text number nodes edges ++ more
  pub in_range : IsEndInRange number nodes edges
  pub some : more ≢ []

-- line i is the one behind n replies and is neither a reply nor an end line, which is missing where nothing is left;
-- or it is the one behind n replies and an end line
abbrev pub IsBadBehind : ℕ → ℕ → List ℕ → Type 0
IsBadBehind n i rest = ((i ≡ n + 1) × BeginsWithNoReportLine rest) ⊎ ((i ≡ n + 2) × BeginsWithEndAndMore rest)

-- line i, counted from 1, is the first that a report may not have there; so the bytes are no report
pub record IsFirstBadReportLine (i : ℕ) (bytes : List ℕ) : Type 0 where
  pub replies : List Reply
  pub rest : List ℕ
  pub text : bytes ≡ flat_map reply_text replies ++ rest
  pub in_grammar : All IsReplyInRange replies
  pub bad : IsBadBehind (length replies) i rest
  pub no_report : (report : Report) → IsReport bytes report → ⊥

-- why reading stopped
abbrev pub StopsReport : ReportFault → List ℕ → Type 0
StopsReport (bad_line i) bytes = IsFirstBadReportLine i bytes
StopsReport no_memory bytes = Unit {0}
