-- Where one caller's replies alone tell of all edits, their numbers are exact.
use Rattle.std.proofs.Common.{◌≡◌, ℕ, zero, suc, ◌<◌, ◌≤◌, List, [], ◌∷◌, length, take, refl, ap, sym, ◌∙◌, subst, arith, Option, None, Some, IsSome, add-one, zero-add, length-append}
use Rattle.std.specs.Prelude.{All, AllPairs, filter_map, zip, IsPermutation}
use Rattle.std.specs.List.{range_with_len}
use Rattle.std.proofs.lemmas.List.FromFn.{length-range_with_len}
use Rattle.std.proofs.lemmas.List.Sorted.{IsPermutation-refl, length_permutation}
use Rattle.drm_num.proofs.Lists.{all_first, all_second, pairs_second}
use Rattle.drm_num.proofs.RisingLemmas.{IsAbove, IsUpTo, IsInTurn, picked_in_turn}
use Rattle.drm_shape.specs.declared.Shape.{Shape}
use Rattle.drm_talk.specs.Front.{EndsWithEdit}
use Rattle.drm_talk.specs.Exchange.{named, accepted}
use Rattle.drm_talk.specs.declared.Entry.{Entry}
use Rattle.drm_talk.specs.declared.Act.{Act}
use Rattle.drm_talk.specs.declared.Line.{Line}
use Rattle.drm_talk.specs.declared.Reply.{Reply}
use Rattle.drm_cellmap.specs.Roadmap.{Roadmap}
use Rattle.drm_report.specs.Reply.{RightReply, IsTrueOf}
use Rattle.drm_report.specs.Report.{IsNotBelow}
use Rattle.drm_report.specs.OneCaller.{NamesExactly}
use Rattle.drm_report.specs.Worker.{edits_in}
use Rattle.drm_report.specs.Laws.{OneCallerAloneIsRight, OneCallerIsExact}
use Rattle.drm_report.proofs.ReplyLemmas.{of_value, accepted_is_named, accepted_is_last}

-- a right reply names no more than there is
pub named_within : (map : Roadmap) (history : List Entry) (caller : ℕ) (act : Act) (reply : Reply) → RightReply map history caller act reply → IsUpTo named (length history) reply
named_within map history caller act reply right n is =
    (of_value (λ n. (n ≤ length history) × IsTrueOf map (take n history) caller act reply) (named reply) n is right.told).0

-- no edit ends an empty front
nothing_last : (caller : ℕ) → (slot : ℕ) × (content : Option Shape) × EndsWithEdit [] caller slot content → ⊥
nothing_last caller (slot, content, (before, entry, is, mine, there, holds)) = let long = ap length is ∙ length-append before (entry ∷ []) in absurd (omega arith)

-- an accepted edit is numbered from 1 on
pub named_above : (map : Roadmap) (history : List Entry) (caller : ℕ) (act : Act) (reply : Reply) → RightReply map history caller act reply → IsAbove named accepted 0 reply
named_above map history caller act reply right n is = (omega arith, λ some. positive n is (accepted reply) refl some)
  where
    positive : (n : ℕ) → named reply ≡ Some n → (o : Option ℕ) → accepted reply ≡ o → IsSome o → 0 < n
    positive (suc n) is o told some = omega arith
    positive zero is None told some = absurd cc
    positive zero is (Some m) told some =
        let placed = (of_value (λ n. (n ≤ length history) × IsTrueOf map (take n history) caller act reply) (named reply) 0 is right.told).1.0 in
        absurd (nothing_last caller (accepted_is_last [] caller act reply m told placed))

-- rising replies that are right over a history, of which they tell all edits
all_in_turn : (map : Roadmap) (lines : List Line) (replies : List Reply) (history : List Entry) → length replies ≡ length lines → All (λ x. RightReply map history x.0.caller x.0.act x.1) (zip lines replies) → AllPairs (λ x y. IsNotBelow x.1 y.1) (zip lines replies) → edits_in replies ≡ length history → IsInTurn named accepted 0 replies
all_in_turn map lines replies history same right rising all =
    picked_in_turn named accepted accepted_is_named replies 0 (length history)
    (all_second (IsAbove named accepted 0) lines replies same (λ k d below. named_above map history _ _ _ (right k d below)))
    (all_second (IsUpTo named (length history)) lines replies same (λ k d below. named_within map history _ _ _ (right k d below)))
    (pairs_second IsNotBelow lines replies same rising) (zero-add (edits_in replies) ∙ all)

-- replies in turn name exactly how many edits there are so far
in_turn_is_exact : (replies : List Reply) → IsInTurn named accepted 0 replies → NamesExactly replies
in_turn_is_exact replies in_turn = record {
  in_order = in_turn.0;
  exact = λ i n reply is names.
      let so_far : n ≡ edits_in (take (suc i) replies) = in_turn.1 i n reply is names ∙ zero-add (edits_in (take (suc i) replies)) in
      so_far ∙ ap (λ k. edits_in (take k replies)) (sym (add-one i));
}

-- where all lines are one caller's, it is the caller of each
each_is : (caller : ℕ) (lines : List Line) (replies : List Reply) → All (λ line. line.caller ≡ caller) lines → All (λ x. x.0.caller ≡ caller) (zip lines replies)
each_is caller lines replies all = all_first (λ (line : Line). line.caller ≡ caller) lines replies all

-- right replies to the lines of one caller
pub one_is_exact : OneCallerIsExact
one_is_exact map caller lines replies history right mine =
    let each = each_is caller lines replies mine in
    let rising : AllPairs (λ (x y : Line × Reply). IsNotBelow x.1 y.1) (zip lines replies) =
    λ i j d before below. right.rising i j d before below (each i d (omega arith) ∙ sym (each j d below)) in
    let all : edits_in replies ≡ length history =
    sym (length_permutation _ _ right.numbered) ∙ length-range_with_len 1 (length history) in
    in_turn_is_exact replies (all_in_turn map lines replies history right.one_each right.right rising all)

-- a reply that is right for one caller is right for the line's caller, who is the same
pub of_caller : (map : Roadmap) (history : List Entry) (whose caller : ℕ) (act : Act) (reply : Reply) → whose ≡ caller → RightReply map history caller act reply → RightReply map history whose act reply
of_caller map history whose caller act reply is right = rw is right

-- the replies to a caller that made all edits
pub one_alone_is_right : OneCallerAloneIsRight
one_alone_is_right map caller lines replies history over mine legal all =
    let each = each_is caller lines replies mine in
    let right : All (λ (x : Line × Reply). RightReply map history x.0.caller x.0.act x.1) (zip lines replies) =
    λ k d below. of_caller map history _ caller _ _ (each k d below) (over.right k d below) in
    let in_turn = all_in_turn map lines replies history over.one_each right over.rising all in
    let order : filter_map accepted replies ≡ range_with_len 1 (length history) = in_turn.0 ∙ ap (λ n. range_with_len 1 n) all in (
      record {
        one_each = over.one_each;
        numbered = subst (λ (ns : List ℕ). IsPermutation ns (range_with_len 1 (length history))) (sym order) (IsPermutation-refl (range_with_len 1 (length history)));
        legal = legal;
        right = right;
        rising = λ i j d before below same. over.rising i j d before below;
      },
      in_turn_is_exact replies in_turn,
    )
