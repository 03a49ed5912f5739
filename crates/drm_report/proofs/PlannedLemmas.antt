-- Answers that are the plan stay so when the history goes on, and are true of the obstacles.
use Rattle.std.proofs.Common.{◌≡◌, ℕ, ◌<◌, ◌≤◌, List, [], length, take, get_or, slice_get, ap, sym, ◌∙◌, subst, arith, Option, None, Some, IfSome}
use Rattle.std.specs.Prelude.{ℤ, ⊤, All, zip}
use Rattle.std.proofs.lemmas.List.{take-take, length-take-le, get_or-take}
use Rattle.std.proofs.lemmas.List.Elements.{All-push}
use Rattle.std.proofs.lemmas.Option.{slice_get_within, slice_get-get_or, get_or_from_slice_get}
use Rattle.drm_num.proofs.Lists.{zip-push, all_first}
use Rattle.drm_talk.specs.History.{IsLegal, MayFollow}
use Rattle.drm_talk.specs.Front.{Begins}
use Rattle.drm_talk.specs.Exchange.{named}
use Rattle.drm_talk.specs.declared.Act.{Act}
use Rattle.drm_talk.specs.declared.Act.TheVariants.{Put as ToPut, Del as ToDel, Count as ToCount, Ask as ToAsk, Sync as ToSync, Tick as ToTick}
use Rattle.drm_talk.specs.declared.Answer.{Answer}
use Rattle.drm_talk.specs.declared.Entry.{Entry}
use Rattle.drm_talk.specs.declared.Line.{Line}
use Rattle.drm_talk.specs.declared.Reply.{Reply}
use Rattle.drm_talk.specs.declared.Reply.TheVariants.{Ask}
use Rattle.drm_cellmap.specs.Roadmap.{Roadmap, IsRoadmap}
use Rattle.drm_report.specs.Asks.{start_of, goal_of, AreConfigs}
use Rattle.drm_plan.specs.AskLaws.{IsAsk, PlansAreRight, RightAnswersAreTruthful}
use Rattle.drm_plan.specs.Plan.{PlanAnswer}
use Rattle.drm_report.specs.Planned.{IsPlanned, IsPlannedReply, IsTrueAnswer, IsTruthfulReply}
use Rattle.drm_report.specs.PlannedLaws.{PlannedAnswersGoOn, GatheredAnswersArePlanned, PlannedAnswersAreTruthful}
use Rattle.drm_report.specs.Reply.{IsOfKind, IsTrueOf}
use Rattle.drm_report.specs.Step.{Serves}
use Rattle.drm_report.proofs.ReplyLemmas.{named_front_stays, named_all}
use Rattle.drm_report.proofs.KeyLemmas.{all_by_key}

-- ---- one caller

-- a planned answer stays one when the history goes on
planned_stays : (map : Roadmap) (front history : List Entry) (act : Act) (reply : Reply) → Begins front history → IsPlannedReply map front act reply → IsPlannedReply map history act reply
planned_stays map front history act reply (rest, is) planned =
    subst (λ (h : List Entry). IsPlannedReply map h act reply) (sym is)
    (record { told = named_front_stays (λ h. IsPlanned map h act reply) front rest (named reply) planned.told })

-- what is said of a named length, with one more fact
also : (A B : ℕ → Type 0) (C : Type 0) (o : Option ℕ) → IfSome o (λ n. A n × B n) → C → IfSome o (λ n. A n × C)
also A B C None told more = tt
also A B C (Some n) told more = (told.0, more)

-- a line that was served by the plan has a planned answer
served_is_planned : (map : Roadmap) (caller : ℕ) (act : Act) (reply : Reply) (before after : List Entry) → Serves map caller act reply before after → IsPlanned map after act reply → IsPlannedReply map after act reply
served_is_planned map caller act reply before after serves planned = record {
  told = named_all (λ h. IsPlanned map h act reply) after (named reply)
      (also (λ n. n ≡ length after) (λ n. IsTrueOf map after caller act reply) (IsPlanned map after act reply) (named reply) serves.told planned);
}

pub goes_on : PlannedAnswersGoOn
goes_on map caller lines replies line reply before after same so_far serves planned =
    let Planned : Line × Reply → Type 0 = λ x. IsPlannedReply map after x.0.act x.1 in
    let old : All Planned (zip lines replies) = λ k d below. planned_stays map before after _ _ serves.begins (so_far k d below) in
    subst (All Planned) (sym (zip-push lines replies line reply same))
    (All-push Planned (zip lines replies) (line, reply) old (served_is_planned map caller line.act reply before after serves planned))

-- ---- all callers

pub gathered_are_planned : GatheredAnswersArePlanned
gathered_are_planned map lines told replies history gathered each =
    let Planned : Line × Reply → Type 0 = λ x. IsPlannedReply map history x.0.act x.1 in
    let callers = all_first (λ (line : Line). line.caller < length told) lines replies gathered.callers in
    all_by_key (λ (x : Line × Reply). x.0.caller) (λ c. Planned) (length told) (zip lines replies) callers
    (λ c low.
    let mine = get_or told c [] in
    let there = slice_get-get_or told c [] low in
    let theirs = each c mine there in
    subst (All Planned) (sym (gathered.each c mine there)) (λ k d below. planned_stays map theirs.0 history _ _ theirs.1 (theirs.2 k d below)))

-- ---- the obstacles

-- a front of a legal history is legal
front_is_legal : (history : List Entry) (n : ℕ) → n ≤ length history → IsLegal history → IsLegal (take n history)
front_is_legal history n within legal k entry is =
    let long = length-take-le n history within in
    let below = slice_get_within (take n history) k entry is in
    let inside : k < n = omega (arith, long, below) in
    let there : slice_get history k ≡ Some entry =
    slice_get-get_or history k entry (omega (arith, within)) ∙ ap (λ (e : Entry). Some e) (sym (get_or-take n history k entry inside) ∙ get_or_from_slice_get (take n history) k entry entry is) in
    subst (λ (front : List Entry). MayFollow front entry k) (sym (take-take k n history (omega arith))) (legal k entry there)

-- an ask that was answered is one between configurations
answered_configs : (map : Roadmap) (act : Act) (n : ℕ) (answer : Answer) → IsOfKind map act (Ask n answer) → AreConfigs map.arm (start_of act) (goal_of act)
answered_configs map (ToAsk start goal) n answer kind = kind
answered_configs map (ToPut slot shape) n answer kind = absurd kind
answered_configs map (ToDel slot) n answer kind = absurd kind
answered_configs map (ToCount element) n answer kind = absurd kind
answered_configs map ToSync n answer kind = absurd kind
answered_configs map ToTick n answer kind = absurd kind

-- the plan over a legal history tells what is true
plan_is_true : PlansAreRight → RightAnswersAreTruthful → (map : Roadmap) (history : List Entry) (start goal : List ℤ) (answer : Answer) → IsRoadmap map → IsLegal history → AreConfigs map.arm start goal → PlanAnswer map history start goal answer → IsTrueAnswer map history start goal answer
plan_is_true right truthful map history start goal answer limits legal configs (snap, after, plan) =
    let asked : IsAsk map snap start goal = record { limits = limits; of_map = after.barred; start_config = configs.0; goal_config = configs.1 } in
    record { snap = snap; after = after; truthful = truthful map history snap start goal answer asked legal after (right map snap start goal answer asked plan) }

truthful_reply : PlansAreRight → RightAnswersAreTruthful → (map : Roadmap) (history : List Entry) (act : Act) (reply : Reply) → IsRoadmap map → IsLegal history → IsOfKind map act reply → IsPlannedReply map history act reply → IsTruthfulReply map history act reply
truthful_reply right truthful map history act (Ask n answer) limits legal kind planned = record {
  told = plan_is_true right truthful map (take n history) (start_of act) (goal_of act) answer limits
      (front_is_legal history n planned.told.0 legal) (answered_configs map act n answer kind) planned.told.1;
}
truthful_reply right truthful map history act reply limits legal kind planned = record { told = no_ask (named reply) }
  where
    no_ask : (o : Option ℕ) → IfSome o (λ n. ⊤)
    no_ask None = tt
    no_ask (Some n) = tt

pub planned_are_truthful : PlansAreRight → RightAnswersAreTruthful → PlannedAnswersAreTruthful
planned_are_truthful plans truthful map lines replies history limits right planned k d below =
    truthful_reply plans truthful map history _ _ limits right.legal (right.right k d below).kind (planned k d below)
