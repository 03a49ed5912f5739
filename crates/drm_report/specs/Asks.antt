-- What the lines of asks say, and which replies they may have.
use Rattle.std.specs.Prelude.{ℕ, ◌≡◌, ℤ, List, [], Some}
use Rattle.drm_arm.specs.declared.arm.Link.{Link}
use Rattle.drm_arm.specs.declared.config.ConfigFault.TheVariants.{Joint}
use Rattle.drm_arm.specs.Config.{IsConfig, config_fault}
use Rattle.drm_talk.specs.declared.Act.{Act}
use Rattle.drm_talk.specs.declared.Act.TheVariants.{Ask as ToAsk}
use Rattle.drm_talk.specs.declared.Reply.{Reply}
use Rattle.drm_talk.specs.declared.Reply.TheVariants.{Ask, Limits, Memory}
use Rattle.drm_talk.specs.declared.Side.{Side}
use Rattle.drm_talk.specs.declared.Side.TheVariants.{Start, Goal}

-- the start and the goal of an ask; of another line they say nothing
abbrev pub start_of : Act → List ℤ
start_of (ToAsk start goal) = start
start_of _ = []

abbrev pub goal_of : Act → List ℤ
goal_of (ToAsk start goal) = goal
goal_of _ = []

-- the joint is the first one of the ask that is outside its limits, the start's joints before the goal's
abbrev pub IsFirstBeyond : List Link → List ℤ → List ℤ → Side → ℕ → Type 0
IsFirstBeyond links start goal Start joint = config_fault links start ≡ Some (Joint joint)
IsFirstBeyond links start goal Goal joint = IsConfig links start × (config_fault links goal ≡ Some (Joint joint))

-- both are configurations of the arm
abbrev pub AreConfigs : List Link → List ℤ → List ℤ → Type 0
AreConfigs links start goal = IsConfig links start × IsConfig links goal

-- the replies that an ask may have
abbrev pub IsAskReply : List Link → List ℤ → List ℤ → Reply → Type 0
IsAskReply links start goal (Ask n answer) = AreConfigs links start goal
IsAskReply links start goal (Limits side joint) = IsFirstBeyond links start goal side joint
IsAskReply links start goal Memory = AreConfigs links start goal
IsAskReply links start goal _ = ⊥
