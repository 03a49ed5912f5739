-- What follows from the definitions of a right reply.
use Rattle.std.specs.Prelude.{ℕ, ◌≡◌, ◌↔◌, ◌≤◌, List, [], ◌∷◌, ◌++◌, length, take, All, Option}
use Rattle.drm_shape.specs.declared.Shape.{Shape}
use Rattle.drm_talk.specs.History.{IsLegal}
use Rattle.drm_talk.specs.Front.{Begins, EndsWithEdit, LacksSlot}
use Rattle.drm_talk.specs.declared.Entry.{Entry}
use Rattle.drm_talk.specs.declared.Act.{Act}
use Rattle.drm_talk.specs.declared.Line.{Line}
use Rattle.drm_talk.specs.declared.Reply.{Reply}
use Rattle.drm_talk.specs.declared.Reply.TheVariants.{Full}
use Rattle.drm_cellmap.specs.Roadmap.{Roadmap}
use Rattle.drm_report.specs.Reply.{RightReply}
use Rattle.drm_report.specs.Numbered.{IsEditAt, IsFullAt, IsEmptyAt}
use Rattle.drm_report.specs.Report.{AreRightReplies}
use Rattle.drm_report.specs.OneCaller.{NamesExactly}
use Rattle.drm_report.specs.Step.{Serves}
use Rattle.drm_report.specs.Worker.{edits_in, AreRightOver}
use Rattle.drm_report.specs.Gathering.{AreGathered, AreRightByCaller}

-- a reply that is right over a front is right over every history that begins with it
abbrev pub RightRepliesStayRight : Type 0
RightRepliesStayRight =
    (map : Roadmap) (front history : List Entry) (caller : ℕ) (act : Act) (reply : Reply)
    → Begins front history → RightReply map front caller act reply → RightReply map history caller act reply

-- a caller's replies are right, and one more line is served: so are they with its reply
abbrev pub RightRepliesGoOn : Type 0
RightRepliesGoOn =
    (map : Roadmap) (caller : ℕ) (lines : List Line) (replies : List Reply) (line : Line) (reply : Reply) (before after : List Entry)
    → AreRightOver map caller lines replies before → Serves map caller line.act reply before after
    → AreRightOver map caller (lines ++ line ∷ []) (replies ++ reply ∷ []) after

-- where one caller made all entries of the history, its right replies are a whole report's, and name exact numbers
abbrev pub OneCallerAloneIsRight : Type 0
OneCallerAloneIsRight =
    (map : Roadmap) (caller : ℕ) (lines : List Line) (replies : List Reply) (history : List Entry)
    → AreRightOver map caller lines replies history → All (λ line. line.caller ≡ caller) lines
    → IsLegal history → edits_in replies ≡ length history
    → AreRightReplies map lines replies history × NamesExactly replies

-- where each caller's replies are right as far as it saw a legal history, and all edits of the history are theirs, the
-- replies in the order of the log are those of a right report, whatever the order in which the callers were served
abbrev pub GatheredRepliesAreRight : Type 0
GatheredRepliesAreRight =
    (map : Roadmap) (lines : List Line) (told : List (List Reply)) (replies : List Reply) (history : List Entry)
    → AreGathered lines told replies → AreRightByCaller map lines told history → IsLegal history
    → AreRightReplies map lines replies history

-- right replies to lines that are all one caller's name exact numbers
abbrev pub OneCallerIsExact : Type 0
OneCallerIsExact =
    (map : Roadmap) (caller : ℕ) (lines : List Line) (replies : List Reply) (history : List Entry)
    → AreRightReplies map lines replies history → All (λ line. line.caller ≡ caller) lines → NamesExactly replies

-- where a right reply says that the history is full, it names the greatest length, and the whole history has it
abbrev pub FullIsTheGreatestLength : Type 0
FullIsTheGreatestLength =
    (map : Roadmap) (history : List Entry) (caller : ℕ) (act : Act) (n : ℕ)
    → IsLegal history → RightReply map history caller act (Full n) → IsFullAt history n

-- the front of n entries ends with an edit exactly where entry n is that edit
abbrev pub FrontsEndWithTheirEntry : Type 0
FrontsEndWithTheirEntry =
    (history : List Entry) (n caller slot : ℕ) (content : Option Shape)
    → n ≤ length history → EndsWithEdit (take n history) caller slot content ↔ IsEditAt history n caller slot content

-- the front of n entries has room and lacks the slot exactly where n is below the greatest length and the slot is empty then
abbrev pub FrontsLackEmptySlots : Type 0
FrontsLackEmptySlots =
    (history : List Entry) (n slot : ℕ) → n ≤ length history → LacksSlot (take n history) slot ↔ IsEmptyAt history n slot
