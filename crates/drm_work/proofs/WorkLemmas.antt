-- A worker goes on by one line, its caller's or another's.
use Rattle.std.proofs.Common.{◌≡◌, ℕ, ◌+◌, ◌<◌, eqb, List, [], ◌∷◌, ◌++◌, length, length-append, take, drop, get_or, refl, ap, sym, ◌∙◌, subst, arith, append_assoc, append-nil, Option, None, Some}
use Rattle.std.specs.Prelude.{filter_map, zip}
use Rattle.std.specs.List.{cons_option}
use Rattle.std.specs.Option.{option_to_list}
use Rattle.std.proofs.lemmas.Bool.{eq-eqb, ne_eqb}
use Rattle.std.proofs.lemmas.List.{take_more, take-append-drop}
use Rattle.std.proofs.lemmas.List.Elements.{filter-append, filter_map-append}
use Rattle.drm_talk.specs.Front.{Begins}
use Rattle.drm_talk.specs.Exchange.{accepted}
use Rattle.drm_talk.specs.declared.Entry.{Entry}
use Rattle.drm_talk.specs.declared.Line.{Line}
use Rattle.drm_talk.specs.declared.Reply.{Reply}
use Rattle.drm_cellmap.specs.Roadmap.{Roadmap}
use Rattle.drm_report.specs.Gathering.{lines_of}
use Rattle.drm_report.specs.Laws.{RightRepliesGoOn}
use Rattle.drm_report.specs.Planned.{ArePlanned}
use Rattle.drm_report.specs.PlannedLaws.{PlannedAnswersGoOn}
use Rattle.drm_report.specs.Step.{Serves}
use Rattle.drm_report.specs.Worker.{AreRightOver}
use Rattle.drm_share.specs.Seen.{Seen}
use Rattle.drm_work.specs.Work.{ServesOn, WorksThrough}

-- ---- one caller's lines

-- with one line more, which is the caller's or is not
pub lines_more : (caller : ℕ) (lines : List Line) (line : Line) → line.caller ≡ caller → lines_of caller (lines ++ line ∷ []) ≡ lines_of caller lines ++ line ∷ []
lines_more caller lines line is =
    let its = eq-eqb line.caller caller is in
    let one : lines_of caller (line ∷ []) ≡ line ∷ [] = rw its refl in
    filter-append (λ l. eqb l.caller caller) lines (line ∷ []) ∙ ap (λ (ls : List Line). lines_of caller lines ++ ls) one

pub lines_same : (caller : ℕ) (lines : List Line) (line : Line) → ¬ (line.caller ≡ caller) → lines_of caller (lines ++ line ∷ []) ≡ lines_of caller lines
lines_same caller lines line apart =
    let other = ne_eqb line.caller caller apart in
    let none : lines_of caller (line ∷ []) ≡ [] = rw other refl in
    filter-append (λ l. eqb l.caller caller) lines (line ∷ []) ∙ ap (λ (ls : List Line). lines_of caller lines ++ ls) none ∙ append-nil (lines_of caller lines)

-- ---- the step

begins_on : (a b c : List Entry) → Begins a b → Begins b c → Begins a c
begins_on a b c (rest, is) (more, on) = (rest ++ more, on ∙ ap (λ (front : List Entry). front ++ more) is ∙ append_assoc a rest more)

-- before the first line
pub works_none : (map : Roadmap) (seen : Seen) → WorksThrough map [] [] seen seen
works_none map seen = record {
  caller = refl;
  begins = ([], sym (append-nil seen.front));
  right = record {
    one_each = refl;
    right = λ k d below. absurd (omega arith);
    rising = λ i j d before below. absurd (omega arith);
  };
  planned = λ k d below. absurd (omega arith);
  own = sym (append-nil seen.own);
}

-- a line of another caller
pub works_other : (map : Roadmap) (lines : List Line) (line : Line) (replies : List Reply) (before after : Seen) → ¬ (line.caller ≡ before.caller) → WorksThrough map lines replies before after → WorksThrough map (lines ++ line ∷ []) replies before after
works_other map lines line replies before after apart so_far =
    let same = sym (lines_same before.caller lines line apart) in
    record {
      caller = so_far.caller;
      begins = so_far.begins;
      right = subst (λ (ls : List Line). AreRightOver map before.caller ls replies after.front) same so_far.right;
      planned = subst (λ (ls : List Line). ArePlanned map after.front (zip ls replies)) same so_far.planned;
      own = so_far.own;
    }

-- the edits of one reply more
edits_more : (replies : List Reply) (reply : Reply) → filter_map accepted (replies ++ reply ∷ []) ≡ filter_map accepted replies ++ option_to_list (accepted reply)
edits_more replies reply = filter_map-append accepted replies (reply ∷ []) ∙ ap (λ (ns : List ℕ). filter_map accepted replies ++ ns) (one (accepted reply))
  where
    one : (o : Option ℕ) → cons_option o [] ≡ option_to_list o
    one None = refl
    one (Some n) = refl

-- a line of the caller
pub works_more : RightRepliesGoOn → PlannedAnswersGoOn → (map : Roadmap) (lines : List Line) (line : Line) (replies : List Reply) (reply : Reply) (before after next : Seen)
    → line.caller ≡ before.caller → WorksThrough map lines replies before after → ServesOn map line.act reply after next → WorksThrough map (lines ++ line ∷ []) (replies ++ reply ∷ []) before next
works_more goes_on plans_go_on map lines line replies reply before after next its so_far on =
    let more = sym (lines_more before.caller lines line its) in
    let serves : Serves map before.caller line.act reply after.front next.front =
    subst (λ (c : ℕ). Serves map c line.act reply after.front next.front) so_far.caller on.serves in
    let right = goes_on map before.caller (lines_of before.caller lines) replies line reply after.front next.front so_far.right serves in
    let planned = plans_go_on map before.caller (lines_of before.caller lines) replies line reply after.front next.front so_far.right.one_each so_far.planned serves on.planned in
    record {
      caller = on.caller ∙ so_far.caller;
      begins = begins_on before.front after.front next.front so_far.begins serves.begins;
      right = subst (λ (ls : List Line). AreRightOver map before.caller ls (replies ++ reply ∷ []) next.front) more right;
      planned = subst (λ (ls : List Line). ArePlanned map next.front (zip ls (replies ++ reply ∷ []))) more planned;
      own = on.own ∙ (ap (λ (ns : List ℕ). ns ++ option_to_list (accepted reply)) so_far.own
          ∙ (append_assoc before.own (filter_map accepted replies) (option_to_list (accepted reply)) ∙ ap (λ (ns : List ℕ). before.own ++ ns) (sym (edits_more replies reply))));
    }

-- there is room for the reply to the caller's line at this place
pub room_for : (caller : ℕ) (lines : List Line) (place : ℕ) (line : Line) → place < length lines → line ≡ get_or lines place line → line.caller ≡ caller → length (lines_of caller (take place lines)) < length (lines_of caller lines)
room_for caller lines place line below is its =
    let front : take (place + 1) lines ≡ take place lines ++ line ∷ [] = take_more lines place line below ∙ ap (λ (l : Line). take place lines ++ l ∷ []) (sym is) in
    let more : lines_of caller (take (place + 1) lines) ≡ lines_of caller (take place lines) ++ line ∷ [] =
    ap (lines_of caller) front ∙ lines_more caller (take place lines) line its in
    let all : lines ≡ take (place + 1) lines ++ drop (place + 1) lines = sym (take-append-drop (place + 1) lines) in
    let parts = ap length (ap (lines_of caller) all ∙ filter-append (λ l. eqb l.caller caller) (take (place + 1) lines) (drop (place + 1) lines)) ∙ length-append (lines_of caller (take (place + 1) lines)) (lines_of caller (drop (place + 1) lines)) in
    let one = ap length more ∙ length-append (lines_of caller (take place lines)) (line ∷ []) in
    omega (arith, parts, one)
