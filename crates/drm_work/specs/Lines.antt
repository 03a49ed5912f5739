-- Which lines are served.
use Rattle.std.specs.Prelude.{ℕ, ℤ, ◌≡◌, ◌<◌, ⊤, List, length, All}
use Rattle.drm_arm.specs.declared.arm.Link.{Link}
use Rattle.drm_shape.specs.Validity.{IsValid}
use Rattle.drm_talk.specs.declared.Act.{Act}
use Rattle.drm_talk.specs.declared.Act.TheVariants.{Put, Ask, Tick}
use Rattle.drm_talk.specs.declared.Line.{Line}
use Rattle.drm_cellmap.specs.Roadmap.{Roadmap}
use Rattle.drm_share.specs.Limits.{most_callers}

-- the greatest number of lines of a log
abbrev pub most_lines : ℕ
most_lines = 200000

-- there is a coordinate for each joint
abbrev pub HasJoints : List Link → List ℤ → Type 0
HasJoints links values = length links ≡ length values

-- what is asked for can be served: a put's shape is valid, and the two configurations of an ask have a coordinate for each
-- joint; ticks are not served yet
abbrev pub IsServable : Roadmap → Act → Type 0
IsServable map (Put slot shape) = IsValid shape
IsServable map (Ask start goal) = HasJoints map.arm start × HasJoints map.arm goal
IsServable map Tick = ⊥
IsServable map _ = ⊤

-- each line can be served
abbrev pub AreServable : Roadmap → List Line → Type 0
AreServable map lines = All (λ line. IsServable map line.act) lines

-- each line is of one of the callers that a planner may have
abbrev pub HaveCallers : List Line → Type 0
HaveCallers lines = All (λ line. line.caller < most_callers) lines
