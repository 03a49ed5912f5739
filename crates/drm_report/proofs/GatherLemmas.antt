-- Replies that are right for each caller's lines are right in the order of the log.
use Rattle.std.proofs.Common.{◌≡◌, ℕ, ◌<◌, ◌≤◌, inl, inr, List, [], ◌∷◌, length, take, get_or, slice_get, refl, ap, sym, ◌∙◌, subst, arith, Option, Some, IsSome, is_some, zero-add}
use Rattle.std.specs.Prelude.{All, AllPairs, filter_map, sum_by, zip, IsPermutation}
use Rattle.std.specs.List.{range_with_len, cons_option}
use Rattle.std.proofs.lemmas.Bool.{cases_eq}
use Rattle.std.proofs.lemmas.List.{same_from_push}
use Rattle.std.proofs.lemmas.Option.{slice_get-get_or}
use Rattle.drm_num.proofs.Lists.{all_first}
use Rattle.drm_shape.specs.declared.Shape.{Shape}
use Rattle.drm_talk.specs.Front.{Begins, EndsWithEdit}
use Rattle.drm_talk.specs.Exchange.{named, accepted}
use Rattle.drm_talk.specs.declared.Entry.{Entry}
use Rattle.drm_talk.specs.declared.Act.{Act}
use Rattle.drm_talk.specs.declared.Line.{Line}
use Rattle.drm_talk.specs.declared.Reply.{Reply}
use Rattle.drm_cellmap.specs.Roadmap.{Roadmap}
use Rattle.drm_report.specs.Reply.{RightReply, IsTrueOf}
use Rattle.drm_report.specs.Report.{IsNotBelow}
use Rattle.drm_report.specs.Worker.{edits_in, AreRightOver}
use Rattle.drm_report.specs.Gathering.{lines_of, AreGathered, AreRightByCaller}
use Rattle.drm_report.specs.Laws.{GatheredRepliesAreRight}
use Rattle.drm_report.proofs.ReplyLemmas.{of_value, accepted_is_named, accepted_is_last, reply_stays}
use Rattle.drm_report.proofs.OneCallerLemmas.{named_above}
use Rattle.drm_report.proofs.KeyLemmas.{of_key, all_by_key, pairs_by_key, all_picked, picked, counts_add, picks_differ}
use Rattle.drm_report.proofs.RangeLemmas.{IsFromOneTo, all_numbers}

-- ---- one caller

-- replies that are right over a front are right over the history that it begins
over_history : (map : Roadmap) (caller : ℕ) (lines : List Line) (replies : List Reply) (front history : List Entry) → Begins front history → AreRightOver map caller lines replies front → AreRightOver map caller lines replies history
over_history map caller lines replies front history begins over = record {
  one_each = over.one_each;
  right = λ k d below. reply_stays map front history caller _ _ begins (over.right k d below);
  rising = over.rising;
}

-- ---- the numbers of accepted edits

-- the entry of this number is an edit of the caller
abbrev IsMade : List Entry → ℕ → ℕ → Type 0
IsMade history n caller = (slot : ℕ) × (content : Option Shape) × EndsWithEdit (take n history) caller slot content

-- each entry has one caller
one_maker : (history : List Entry) (n a b : ℕ) → IsMade history n a → IsMade history n b → a ≡ b
one_maker history n a b (slot, content, (first, entry, is, of_a, there, holds)) (slot_b, content_b, (first_b, entry_b, is_b, of_b, there_b, holds_b)) =
    let same = same_from_push first first_b entry entry_b (sym is ∙ is_b) in
    sym of_a ∙ ap (λ (e : Entry). e.caller) same.1 ∙ of_b

-- what an accepted edit tells: an entry of the history, which is its caller's
accepted_number : (map : Roadmap) (history : List Entry) (caller : ℕ) (act : Act) (reply : Reply) (n : ℕ) → RightReply map history caller act reply → accepted reply ≡ Some n → IsFromOneTo (length history) n × IsMade history n caller
accepted_number map history caller act reply n right is =
    let names = accepted_is_named reply n is in
    let some : IsSome (accepted reply) = ap is_some is in
    let told = of_value (λ n. (n ≤ length history) × IsTrueOf map (take n history) caller act reply) (named reply) n names right.told in
    (((named_above map history caller act reply right n names).1 some, told.0), accepted_is_last (take n history) caller act reply n is told.1.0)

-- one number is not told twice
numbers_differ : (map : Roadmap) (history : List Entry) (x y : Line × Reply) (m n : ℕ) → RightReply map history x.0.caller x.0.act x.1 → RightReply map history y.0.caller y.0.act y.1 → (x.0.caller ≡ y.0.caller → IsNotBelow x.1 y.1) → accepted x.1 ≡ Some m → accepted y.1 ≡ Some n → ¬ (m ≡ n)
numbers_differ map history x y m n right_x right_y rising is_m is_n same =
    elim (cases_eq x.0.caller y.0.caller) [
      | inl one ↦
          let some : IsSome (accepted y.1) = ap is_some is_n in
          let above : m < n = (rising one m n (accepted_is_named x.1 m is_m) (accepted_is_named y.1 n is_n)).1 some in
          absurd (omega (arith, above, same))
      | inr two ↦
          let of_x = (accepted_number map history x.0.caller x.0.act x.1 m right_x is_m).1 in
          let of_y = (accepted_number map history y.0.caller y.0.act y.1 n right_y is_n).1 in
          two (one_maker history n x.0.caller y.0.caller (subst (λ (k : ℕ). IsMade history k x.0.caller) same of_x) of_y)
    ]

-- what is picked of the replies is picked of the exchanges
picked_second : (lines : List Line) (replies : List Reply) → length replies ≡ length lines → filter_map (λ (x : Line × Reply). accepted x.1) (zip lines replies) ≡ filter_map accepted replies
picked_second [] [] same = refl
picked_second [] (reply ∷ replies) same = absurd (omega arith)
picked_second (line ∷ lines) [] same = absurd (omega arith)
picked_second (line ∷ lines) (reply ∷ replies) same = ap (cons_option (accepted reply)) (picked_second lines replies (omega arith))

-- ---- all callers

-- each caller's replies, right over the whole history
each_over : (map : Roadmap) (lines : List Line) (told : List (List Reply)) (history : List Entry) → AreRightByCaller map lines told history → (caller : ℕ) (mine : List Reply) → slice_get told caller ≡ Some mine → AreRightOver map caller (lines_of caller lines) mine history
each_over map lines told history right caller mine is =
    let over = right.each caller mine is in
    over_history map caller (lines_of caller lines) mine over.0 history over.1 over.2

-- all numbers are told
numbered : (map : Roadmap) (lines : List Line) (told : List (List Reply)) (replies : List Reply) (history : List Entry) → AreGathered lines told replies → AreRightByCaller map lines told history
    → All (λ x. RightReply map history x.0.caller x.0.act x.1) (zip lines replies) → AllPairs (λ x y. x.0.caller ≡ y.0.caller → IsNotBelow x.1 y.1) (zip lines replies)
    → IsPermutation (filter_map accepted replies) (range_with_len 1 (length history))
numbered map lines told replies history gathered by_caller right rising =
    let xs = zip lines replies in
    let key : Line × Reply → ℕ = λ x. x.0.caller in
    let pick : Line × Reply → Option ℕ = λ x. accepted x.1 in
    let callers = all_first (λ (line : Line). line.caller < length told) lines replies gathered.callers in
    let within : All (IsFromOneTo (length history)) (filter_map pick xs) =
    all_picked pick (IsFromOneTo (length history)) xs (λ k d below n is. (accepted_number map history _ _ _ n (right k d below) is).0) in
    let differ : AllPairs (λ m n. ¬ (m ≡ n)) (filter_map pick xs) =
    picks_differ pick xs (λ i j d before below m n. numbers_differ map history _ _ m n (right i d (omega arith)) (right j d below) (rising i j d before below)) in
    let many : picked pick xs ≡ sum_by edits_in told =
    counts_add key pick edits_in told 0 xs (λ k d below. let known = callers k d below in (omega arith, omega (arith, known)))
    (λ caller mine is.
    let over = each_over map lines told history by_caller caller mine is in
    subst (λ (c : ℕ). picked pick (of_key key c xs) ≡ edits_in mine) (sym (zero-add caller))
    (ap (picked pick) (gathered.each caller mine is) ∙ ap length (picked_second (lines_of caller lines) mine over.one_each))) in
    let all = all_numbers (length history) (filter_map pick xs) within differ (many ∙ by_caller.total) in
    subst (λ (ns : List ℕ). IsPermutation ns (range_with_len 1 (length history))) (picked_second lines replies gathered.one_each) all

pub gathered_are_right : GatheredRepliesAreRight
gathered_are_right map lines told replies history gathered by_caller legal =
    let xs = zip lines replies in
    let key : Line × Reply → ℕ = λ x. x.0.caller in
    let Right : ℕ → Line × Reply → Type 0 = λ c x. RightReply map history c x.0.act x.1 in
    let Above : Line × Reply → Line × Reply → Type 0 = λ x y. IsNotBelow x.1 y.1 in
    let callers = all_first (λ (line : Line). line.caller < length told) lines replies gathered.callers in
    let there : (c : ℕ) → c < length told → slice_get told c ≡ Some (get_or told c []) = λ c low. slice_get-get_or told c [] low in
    let right : All (λ x. RightReply map history x.0.caller x.0.act x.1) xs =
    all_by_key key Right (length told) xs callers
    (λ c low. subst (All (Right c)) (sym (gathered.each c (get_or told c []) (there c low))) (each_over map lines told history by_caller c (get_or told c []) (there c low)).right) in
    let rising : AllPairs (λ x y. x.0.caller ≡ y.0.caller → IsNotBelow x.1 y.1) xs =
    pairs_by_key key Above (length told) xs callers
    (λ c low. subst (AllPairs Above) (sym (gathered.each c (get_or told c []) (there c low))) (each_over map lines told history by_caller c (get_or told c []) (there c low)).rising) in
    record {
      one_each = gathered.one_each;
      numbered = numbered map lines told replies history gathered by_caller right rising;
      legal = legal;
      right = right;
      rising = rising;
    }
