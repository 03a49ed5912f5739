-- What the workers and the close say together: the report is right.
use Rattle.std.proofs.Common.{◌≡◌, ℕ, suc, ◌<◌, List, [], ◌∷◌, length, map, get_or, slice_get, refl, ap, sym, ◌∙◌, subst, arith, Some}
use Rattle.std.specs.Prelude.{All, sum_by, zip}
use Rattle.std.proofs.lemmas.List.{length-map}
use Rattle.std.proofs.lemmas.List.FromFn.{length-range_with_len}
use Rattle.std.proofs.lemmas.List.Sums.{sum_by-cons}
use Rattle.std.proofs.lemmas.Option.{slice_get_within, slice_get-get_or, get_or_from_slice_get}
use Rattle.drm_talk.specs.Front.{Begins}
use Rattle.drm_talk.specs.declared.Entry.{Entry}
use Rattle.drm_talk.specs.declared.Line.{Line}
use Rattle.drm_talk.specs.declared.Reply.{Reply}
use Rattle.drm_talk.specs.declared.Report.{Report}
use Rattle.drm_grid.specs.CellSet.{Has}
use Rattle.drm_cellmap.specs.Barred.{AreTotals}
use Rattle.drm_cellmap.specs.Roadmap.{Roadmap, IsRoadmap}
use Rattle.drm_cellmap.specs.Snapshot.{IsSnapOf}
use Rattle.drm_cellmap.proofs.BarredLemmas.{totals_same}
use Rattle.drm_after.specs.After.{IsOccupiedAfter}
use Rattle.drm_report.specs.Gathering.{AreRightByCaller}
use Rattle.drm_report.specs.Laws.{GatheredRepliesAreRight}
use Rattle.drm_report.specs.Planned.{ArePlanned, AreTruthful}
use Rattle.drm_report.specs.PlannedLaws.{ArePlannedOverFront, GatheredAnswersArePlanned, PlannedAnswersAreTruthful}
use Rattle.drm_report.specs.Report.{AreRightReplies}
use Rattle.drm_report.specs.Worker.{edits_in}
use Rattle.drm_after.specs.After.{IsSnapAfter}
use Rattle.drm_share.specs.Closing.{AreOneEach, Closes, Whole}
use Rattle.drm_share.specs.Seen.{Seen, fresh}
use Rattle.drm_work.specs.Told.{AreTold}
use Rattle.drm_work.specs.Whole.{HaveServed, IsServed, IsReplayOf}
use Rattle.drm_work.specs.Work.{WorksThrough}

-- as many passes as callers that were told replies
pub as_many : (n : ℕ) (passes : List Seen) → AreOneEach n passes → length passes ≡ n
as_many n passes each = sym (length-map passes (λ (seen : Seen). seen.caller)) ∙ (ap length each ∙ length-range_with_len 0 n)

-- the pass of a caller that was told replies
pass_of : (map : Roadmap) (lines : List Line) (told : List (List Reply)) (passes : List Seen) → HaveServed map lines told passes → (caller : ℕ) (mine : List Reply) → slice_get told caller ≡ Some mine
    → (pass : Seen) × (caller < length passes) × (pass ≡ get_or passes caller pass) × WorksThrough map lines mine (fresh caller) pass
pass_of map lines told passes served caller mine is =
    let inside = slice_get_within told caller mine is in
    let many = as_many (length told) passes served.one_each in
    let within : caller < length passes = omega (arith, inside, many) in
    let pass = get_or passes caller (fresh caller) in
    let there = slice_get-get_or passes caller (fresh caller) within in
    (pass, within, sym (get_or_from_slice_get passes caller pass pass there), served.each caller mine pass is there)

-- each caller was told one reply for each of its lines
pub are_told : (map : Roadmap) (lines : List Line) (told : List (List Reply)) (passes : List Seen) → HaveServed map lines told passes → All (λ line. line.caller < length told) lines → AreTold lines told
are_told map lines told passes served callers = record {
  callers = callers;
  one_each = λ caller mine is. (pass_of map lines told passes served caller mine is).3.right.one_each;
}

-- sums of numbers that are the same, one by one
same_sums : (told : List (List Reply)) (passes : List Seen) → length passes ≡ length told
    → ((c : ℕ) (mine : List Reply) (pass : Seen) → slice_get told c ≡ Some mine → slice_get passes c ≡ Some pass → edits_in mine ≡ length pass.own)
    → sum_by edits_in told ≡ sum_by (λ (seen : Seen). length seen.own) passes
same_sums [] [] long same = refl
same_sums [] (pass ∷ passes) long same = absurd (omega arith)
same_sums (mine ∷ told) [] long same = absurd (omega arith)
same_sums (mine ∷ told) (pass ∷ passes) long same =
    let first : edits_in mine ≡ length pass.own = same 0 mine pass refl refl in
    let rest = same_sums told passes (omega (arith, long)) (λ c theirs other is there. same (suc c) theirs other is there) in
    let left = sum_by-cons edits_in mine told in
    let right = sum_by-cons (λ (seen : Seen). length seen.own) pass passes in
    omega (arith, first, rest, left, right)

-- what the workers did, over the history of the close
pub right_by_caller : (map : Roadmap) (lines : List Line) (told : List (List Reply)) (passes : List Seen) (history : List Entry) → HaveServed map lines told passes → Closes passes history → AreRightByCaller map lines told history
right_by_caller map lines told passes history served closes = record {
  each = λ caller mine is.
      let its = pass_of map lines told passes served caller mine is in
      let begins = subst (λ (seen : Seen). Begins seen.front history) (sym its.2) (closes.fronts caller its.0 its.1) in
      (its.0.front, begins, its.3.right);
  total = same_sums told passes (as_many (length told) passes served.one_each)
      (λ caller mine pass is there. sym (ap length (served.each caller mine pass is there).own))
      ∙ closes.total;
}

-- and their asks
pub planned_by_caller : (map : Roadmap) (lines : List Line) (told : List (List Reply)) (passes : List Seen) (history : List Entry) → HaveServed map lines told passes → Closes passes history
    → (caller : ℕ) (mine : List Reply) → slice_get told caller ≡ Some mine → ArePlannedOverFront map caller lines mine history
planned_by_caller map lines told passes history served closes caller mine is =
    let its = pass_of map lines told passes served caller mine is in
    let begins = subst (λ (seen : Seen). Begins seen.front history) (sym its.2) (closes.fronts caller its.0 its.1) in
    (its.0.front, begins, its.3.planned)

-- all lines are of callers that were told replies
pub callers_told : (n : ℕ) (lines : List Line) (told : List (List Reply)) → length told ≡ n → All (λ line. line.caller < n) lines → All (λ line. line.caller < length told) lines
callers_told n lines told many known = subst (λ (k : ℕ). All (λ line. line.caller < k) lines) (sym many) known

-- what all workers did, over the history of the close: the report that ends with it is right, and its asks are answered
pub replay_of : GatheredRepliesAreRight → GatheredAnswersArePlanned → PlannedAnswersAreTruthful
    → (roadmap : Roadmap) (lines : List Line) (passes : List Seen) (replies : List Reply) (close told : Whole) (report : Report)
    → IsRoadmap roadmap → IsServed roadmap lines passes replies → Closes passes close.journal → IsSnapAfter roadmap close.journal close.last
    → report.replies ≡ replies → told ≡ close → report.number ≡ close.last.number
    → ((m : Roadmap) → IsSnapOf m close.last → AreTotals m (Has close.last.occupied) report.nodes report.edges)
    → IsReplayOf roadmap lines report told.journal
replay_of gathers plans tells roadmap lines passes replies close told report limits served closes snap are_replies is_close number totals =
    let right = gathers roadmap lines served.told replies close.journal served.gathered (right_by_caller roadmap lines served.told passes close.journal served.served closes) closes.legal in
    let planned = plans roadmap lines served.told replies close.journal served.gathered (planned_by_caller roadmap lines served.told passes close.journal served.served closes) in
    let truthful = tells roadmap lines replies close.journal limits right planned in
    let whole : IsReplayOf roadmap lines report close.journal = record {
      right = record {
        replies = subst (λ (rs : List Reply). AreRightReplies roadmap lines rs close.journal) (sym are_replies) right;
        number = number ∙ snap.number;
        totals = totals_same roadmap (Has close.last.occupied) (IsOccupiedAfter roadmap close.journal) snap.occupied report.nodes report.edges (totals roadmap snap.barred);
      };
      planned = subst (λ (rs : List Reply). ArePlanned roadmap close.journal (zip lines rs)) (sym are_replies) planned;
      truthful = subst (λ (rs : List Reply). AreTruthful roadmap close.journal (zip lines rs)) (sym are_replies) truthful;
    } in
    subst (λ (w : Whole). IsReplayOf roadmap lines report w.journal) (sym is_close) whole
