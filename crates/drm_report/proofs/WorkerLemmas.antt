-- A caller's replies with one more.
use Rattle.std.proofs.Common.{◌≡◌, ℕ, ◌+◌, ◌≤◌, List, [], ◌∷◌, length, take, ap, sym, ◌∙◌, subst, arith, length-append}
use Rattle.std.specs.Prelude.{All, AllPairs, zip}
use Rattle.std.proofs.lemmas.List.Elements.{All-push}
use Rattle.std.proofs.lemmas.List.Quantifiers.{all_pairs_push}
use Rattle.drm_num.proofs.Lists.{zip-push}
use Rattle.drm_talk.specs.Exchange.{named}
use Rattle.drm_talk.specs.declared.Entry.{Entry}
use Rattle.drm_talk.specs.declared.Act.{Act}
use Rattle.drm_talk.specs.declared.Line.{Line}
use Rattle.drm_talk.specs.declared.Reply.{Reply}
use Rattle.drm_cellmap.specs.Roadmap.{Roadmap}
use Rattle.drm_report.specs.Reply.{RightReply, IsTrueOf}
use Rattle.drm_report.specs.Report.{IsNotBelow}
use Rattle.drm_report.specs.Step.{Serves}
use Rattle.drm_report.specs.Laws.{RightRepliesGoOn}
use Rattle.drm_report.proofs.ReplyLemmas.{of_value, front_is_shorter, reply_stays, served_is_right}

-- a reply that serves a line names more than all that was named before
served_is_above : (map : Roadmap) (caller : ℕ) (earlier act : Act) (told reply : Reply) (before after : List Entry) → RightReply map before caller earlier told → Serves map caller act reply before after → IsNotBelow told reply
served_is_above map caller earlier act told reply before after right serves a b is_a is_b =
    let low = of_value (λ n. (n ≤ length before) × IsTrueOf map (take n before) caller earlier told) (named told) a is_a right.told in
    let at = of_value (λ n. (n ≡ length after) × IsTrueOf map after caller act reply) (named reply) b is_b serves.told in
    let longer = front_is_shorter before after serves.begins in
    let seen : a ≤ length before = low.0 in
    let now : b ≡ length after = at.0 in
    (omega arith, λ some. let grown = serves.grown some in omega arith)

-- one more line is served
pub worker_goes_on : RightRepliesGoOn
worker_goes_on map caller lines replies line reply before after so_far serves =
    let Right : List Entry → Line × Reply → Type 0 = λ h x. RightReply map h caller x.0.act x.1 in
    let Above : Line × Reply → Line × Reply → Type 0 = λ x y. IsNotBelow x.1 y.1 in
    let pairs = sym (zip-push lines replies line reply so_far.one_each) in
    let old : All (Right after) (zip lines replies) =
    λ k d below. reply_stays map before after caller _ _ serves.begins (so_far.right k d below) in
    record {
      one_each = length-append replies (reply ∷ []) ∙ ap (λ n. n + 1) so_far.one_each ∙ sym (length-append lines (line ∷ []));
      right = subst (λ (xs : List (Line × Reply)). All (Right after) xs) pairs
          (All-push (Right after) (zip lines replies) (line, reply) old (served_is_right map caller line.act reply before after serves));
      rising = subst (λ (xs : List (Line × Reply)). AllPairs Above xs) pairs
          (all_pairs_push Above (zip lines replies) (line, reply) so_far.rising
          (λ k d below. served_is_above map caller _ line.act _ reply before after (so_far.right k d below) serves));
    }
