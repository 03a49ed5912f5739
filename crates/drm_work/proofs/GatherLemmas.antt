-- The replies to the lines of a log, gathered from the last line on.
use Rattle.std.proofs.Common.{◌≡◌, ℕ, zero, suc, ◌+◌, ◌-◌, ◌<◌, ◌≤◌, Bool, true, eqb, refl, List, [], ◌∷◌, ◌++◌, length, take, drop, get_or, slice_get, reverse, ap, sym, ◌∙◌, subst, arith, Some}
use Rattle.std.specs.Prelude.{All, filter, zip}
use Rattle.std.proofs.lemmas.Bool.{eq-eqb}
use Rattle.std.proofs.lemmas.List.{take-append-drop, take_more, drop_more, reverse-append}
use Rattle.std.proofs.lemmas.Option.{slice_get_within, slice_get-get_or}
use Rattle.drm_talk.specs.declared.Line.{Line}
use Rattle.drm_talk.specs.declared.Reply.{Reply}
use Rattle.drm_report.specs.Gathering.{lines_of, exchanges_of, AreGathered}
use Rattle.drm_work.specs.Told.{AreTold}
use Rattle.drm_work.proofs.ShareLemmas.{AreShared, shared_more, last_is_left, shared_all}

-- who asks
abbrev pub caller_of : Line → ℕ
caller_of line = line.caller

-- the lines from this place on have replies, which were found from the last one on
abbrev pub AreDone : List Line → List (List Reply) → List (List Reply) → List Reply → ℕ → Type 0
AreDone lines told left replies place = AreShared caller_of (drop place lines) told left (reverse replies)

-- the line before them has a reply left
pub one_is_left : (lines : List Line) (told left : List (List Reply)) (replies : List Reply) (place : ℕ) (d : Line) → AreTold lines told → AreDone lines told left replies place
    → 0 < place → place ≤ length lines → (mine : List Reply) → slice_get left (get_or lines (place - 1) d).caller ≡ Some mine → 0 < length mine
one_is_left lines told left replies place d are_told done positive within mine is =
    let line = get_or lines (place - 1) d in
    let known : line.caller < length told = are_told.callers (place - 1) d (omega (arith, positive, within)) in
    let was = get_or told line.caller [] in
    let there = slice_get-get_or told line.caller [] known in
    let next : place ≡ (place - 1) + 1 = omega (arith, positive) in
    let front : take place lines ≡ take (place - 1) lines ++ line ∷ [] =
    ap (λ (k : ℕ). take k lines) next ∙ take_more lines (place - 1) d (omega (arith, positive, within)) in
    let all : lines ≡ (take (place - 1) lines ++ line ∷ []) ++ drop place lines =
    sym (take-append-drop place lines) ∙ ap (λ (xs : List Line). xs ++ drop place lines) front in
    last_is_left caller_of line (take (place - 1) lines) (drop place lines) (reverse replies) was mine (done.each line.caller was mine there is)
    (are_told.one_each line.caller was there ∙ ap (λ (xs : List Line). length (lines_of line.caller xs)) all)

-- one more line has its reply
pub one_more_done : (lines : List Line) (told left after : List (List Reply)) (replies : List Reply) (reply : Reply) (rest : List Reply) (place : ℕ) (d : Line) → AreDone lines told left replies place
    → 0 < place → place ≤ length lines → slice_get left (get_or lines (place - 1) d).caller ≡ Some (rest ++ reply ∷ []) → length after ≡ length left
    → slice_get after (get_or lines (place - 1) d).caller ≡ Some rest → ((c : ℕ) → ¬ (c ≡ (get_or lines (place - 1) d).caller) → slice_get after c ≡ slice_get left c)
    → AreDone lines told after (replies ++ reply ∷ []) (place - 1)
one_more_done lines told left after replies reply rest place d done positive within last long popped others =
    let line = get_or lines (place - 1) d in
    let next : (place - 1) + 1 ≡ place = omega (arith, positive) in
    let from : drop (place - 1) lines ≡ line ∷ drop place lines =
    drop_more lines (place - 1) d (omega (arith, positive, within)) ∙ ap (λ (k : ℕ). line ∷ drop k lines) next in
    let more = shared_more caller_of line (drop place lines) told left after (reverse replies) reply rest done last long popped others in
    rw (from, reverse-append replies (reply ∷ [])) more

-- all lines have their replies
pub all_done : (lines : List Line) (told left : List (List Reply)) (replies : List Reply) (place : ℕ) → AreTold lines told → AreDone lines told left replies place → place ≡ 0 → AreGathered lines told (reverse replies)
all_done lines told left replies place are_told done none =
    let whole : AreDone lines told left replies 0 = subst (λ (k : ℕ). AreDone lines told left replies k) none done in
    record {
      one_each = whole.one_each;
      callers = are_told.callers;
      each = λ c was is.
          let inside = slice_get_within told c was is in
          let many = whole.as_many in
          let there = slice_get-get_or left c [] (omega (arith, inside, many)) in
          shared_all caller_of c lines (reverse replies) was (get_or left c []) (whole.each c was (get_or left c []) is there) (are_told.one_each c was is);
    }

-- ---- a caller alone

-- all lines are the caller's, and so are all exchanges
all_kept : {X : Type 0} (p : X → Bool) (xs : List X) → ((k : ℕ) (d : X) → k < length xs → p (get_or xs k d) ≡ true) → filter p xs ≡ xs
all_kept p [] all = refl
all_kept {X} p (x ∷ xs) all = rw (all 0 x (omega arith)) (ap (λ (ys : List X). x ∷ ys) (all_kept p xs (λ k d below. all (suc k) d (omega (arith, below)))))

zip_kept : (lines : List Line) (mine : List Reply) → All (λ line. line.caller < 1) lines → exchanges_of 0 (zip lines mine) ≡ zip lines mine
zip_kept [] mine callers = refl
zip_kept (line ∷ lines) [] callers = refl
zip_kept (line ∷ lines) (reply ∷ mine) callers =
    let its : line.caller ≡ 0 = let first = callers 0 line (omega arith) in omega (arith, first) in
    rw (eq-eqb line.caller 0 its) (ap (λ (xs : List (Line × Reply)). (line, reply) ∷ xs) (zip_kept lines mine (λ k d below. callers (suc k) d (omega (arith, below)))))

-- the replies of a caller alone are in the order of the log
pub alone_gathered : (lines : List Line) (mine : List Reply) → AreTold lines (mine ∷ []) → AreGathered lines (mine ∷ []) mine
alone_gathered lines mine are_told =
    let own : lines_of 0 lines ≡ lines = all_kept (λ line. eqb line.caller 0) lines (λ k d below. let its = are_told.callers k d below in eq-eqb (get_or lines k d).caller 0 (omega (arith, its))) in
    record {
      one_each = are_told.one_each 0 mine refl ∙ ap length own;
      callers = are_told.callers;
      each = each own;
    }
  where
    each : lines_of 0 lines ≡ lines → (caller : ℕ) (theirs : List Reply) → slice_get (mine ∷ []) caller ≡ Some theirs → exchanges_of caller (zip lines mine) ≡ zip (lines_of caller lines) theirs
    each own zero theirs is =
        let same : mine ≡ theirs = cc in
        zip_kept lines mine are_told.callers ∙ (ap (λ (ls : List Line). zip ls mine) (sym own) ∙ ap (λ (rs : List Reply). zip (lines_of 0 lines) rs) same)
    each own (suc caller) theirs is = absurd cc
