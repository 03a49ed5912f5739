-- By the laws of plans and of right answers.
use Rattle.std.proofs.lemmas.Result.{IfOk-weaker}
use Rattle.drm_talk.specs.History.{IsLegal}
use Rattle.drm_talk.specs.declared.Answer.{Answer}
use Rattle.drm_talk.specs.declared.Entry.{Entry}
use Rattle.std.specs.Prelude.{List}
use Rattle.drm_after.specs.After.{IsSnapAfter}
use Rattle.drm_plan.specs.AskLaws.{IsAsk}
use Rattle.drm_plan.specs.Plan.{IsPlan}
use Rattle.drm_plan.specs.Right.{IsRight}
use Rattle.drm_plan.specs.Truthful.{IsUntouched, IsTruthful}
use Rattle.drm_plan.proofs.answer.ask.Goals as goal

pub returns-clause-right : goal.returns-clause-right
returns-clause-right c =
    let asked : IsAsk c.args.map.now c.args.snap.now c.args.start.now c.args.goal.now =
    record { limits = c.plan.ensures.limits; of_map = c.requires.of_map; start_config = c.requires.start; goal_config = c.requires.goal } in
    IfOk-weaker c.plan.result (IsPlan c.args.map.now c.args.snap.now c.args.start.now c.args.goal.now) (IsRight c.args.map.now c.args.snap.now c.args.start.now c.args.goal.now)
    (λ answer plan. c.plans_are_right.ensures c.args.map.now c.args.snap.now c.args.start.now c.args.goal.now answer asked plan) c.plan.ensures.plan

pub returns-clause-untouched : goal.returns-clause-untouched
returns-clause-untouched c =
    let asked : IsAsk c.args.map.now c.args.snap.now c.args.start.now c.args.goal.now =
    record { limits = c.plan.ensures.limits; of_map = c.requires.of_map; start_config = c.requires.start; goal_config = c.requires.goal } in
    IfOk-weaker c.plan.result (IsPlan c.args.map.now c.args.snap.now c.args.start.now c.args.goal.now) (IsUntouched c.args.map.now c.args.snap.now c.args.start.now c.args.goal.now)
    (λ answer plan.
    let right = c.plans_are_right.ensures c.args.map.now c.args.snap.now c.args.start.now c.args.goal.now answer asked plan in
    c.right_paths_are_untouched.ensures c.args.map.now c.args.snap.now c.args.start.now c.args.goal.now answer asked right) c.plan.ensures.plan

pub returns-clause-truthful : goal.returns-clause-truthful
returns-clause-truthful c =
    let asked : IsAsk c.args.map.now c.args.snap.now c.args.start.now c.args.goal.now =
    record { limits = c.plan.ensures.limits; of_map = c.requires.of_map; start_config = c.requires.start; goal_config = c.requires.goal } in
    IfOk-weaker c.plan.result (IsPlan c.args.map.now c.args.snap.now c.args.start.now c.args.goal.now)
    (λ (answer : Answer). (history : List Entry) → IsLegal history → IsSnapAfter c.args.map.now history c.args.snap.now → IsTruthful c.args.map.now history c.args.snap.now c.args.start.now c.args.goal.now answer)
    (λ answer plan history legal after.
    let right = c.plans_are_right.ensures c.args.map.now c.args.snap.now c.args.start.now c.args.goal.now answer asked plan in
    c.right_answers_are_truthful.ensures c.args.map.now history c.args.snap.now c.args.start.now c.args.goal.now answer asked legal after right) c.plan.ensures.plan
