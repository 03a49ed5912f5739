-- Asks that are answered by the plan, and by what is true of the obstacles, after the front whose length the reply names.
use Rattle.std.specs.Prelude.{ℤ, ◌≤◌, ⊤, List, length, take, All, IfSome}
use Rattle.drm_talk.specs.Exchange.{named}
use Rattle.drm_talk.specs.declared.Act.{Act}
use Rattle.drm_talk.specs.declared.Answer.{Answer}
use Rattle.drm_talk.specs.declared.Entry.{Entry}
use Rattle.drm_talk.specs.declared.Line.{Line}
use Rattle.drm_talk.specs.declared.Reply.{Reply}
use Rattle.drm_talk.specs.declared.Reply.TheVariants.{Ask}
use Rattle.drm_cellmap.specs.Roadmap.{Roadmap}
use Rattle.drm_cellmap.specs.Snapshot.{Snapshot}
use Rattle.drm_after.specs.After.{IsSnapAfter}
use Rattle.drm_report.specs.Asks.{start_of, goal_of}
use Rattle.drm_plan.specs.Plan.{PlanAnswer}
use Rattle.drm_plan.specs.Truthful.{IsTruthful}

-- the answer of a reply to an ask is the plan after the front
abbrev pub IsPlanned : Roadmap → List Entry → Act → Reply → Type 0
IsPlanned map front act (Ask n answer) = PlanAnswer map front (start_of act) (goal_of act) answer
IsPlanned map front act _ = ⊤

-- and it is so after the front that the reply names
pub record IsPlannedReply (map : Roadmap) (history : List Entry) (act : Act) (reply : Reply) : Type 0 where
  pub told : IfSome (named reply) (λ n. (n ≤ length history) × IsPlanned map (take n history) act reply)

-- each ask of these lines is answered by the plan after the front that the reply names
abbrev pub ArePlanned : Roadmap → List Entry → List (Line × Reply) → Type 0
ArePlanned map history exchanges = All (λ x. IsPlannedReply map history x.0.act x.1) exchanges

-- what the answer tells is true of the obstacles that stand after the history
pub record IsTrueAnswer (map : Roadmap) (history : List Entry) (start goal : List ℤ) (answer : Answer) : Type 0 where
  pub snap : Snapshot
  pub after : IsSnapAfter map history snap
  pub truthful : IsTruthful map history snap start goal answer

-- the answer of a reply to an ask tells what is true after the front
abbrev pub TellsTruth : Roadmap → List Entry → Act → Reply → Type 0
TellsTruth map front act (Ask n answer) = IsTrueAnswer map front (start_of act) (goal_of act) answer
TellsTruth map front act _ = ⊤

-- and it does so of the front that the reply names
pub record IsTruthfulReply (map : Roadmap) (history : List Entry) (act : Act) (reply : Reply) : Type 0 where
  pub told : IfSome (named reply) (λ n. TellsTruth map (take n history) act reply)

-- the answer to each ask of these lines tells what is true of the obstacles after the front that the reply names
abbrev pub AreTruthful : Roadmap → List Entry → List (Line × Reply) → Type 0
AreTruthful map history exchanges = All (λ x. IsTruthfulReply map history x.0.act x.1) exchanges
