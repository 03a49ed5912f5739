-- One line of a caller served: its reply, and how the history goes on, which other callers may lengthen too.
use Rattle.std.specs.Prelude.{ℕ, ◌≡◌, ◌<◌, List, length, IfSome, IsSome}
use Rattle.drm_talk.specs.Front.{Begins}
use Rattle.drm_talk.specs.Exchange.{named, accepted}
use Rattle.drm_talk.specs.declared.Entry.{Entry}
use Rattle.drm_talk.specs.declared.Act.{Act}
use Rattle.drm_talk.specs.declared.Reply.{Reply}
use Rattle.drm_cellmap.specs.Roadmap.{Roadmap}
use Rattle.drm_report.specs.Reply.{IsOfKind, IsTrueOf}

-- the reply serves the caller's line, and what the caller sees of the history has gone on from `before` to `after`
pub record Serves (map : Roadmap) (caller : ℕ) (act : Act) (reply : Reply) (before after : List Entry) : Type 0 where
  pub begins : Begins before after
  pub kind : IsOfKind map act reply
  -- it names the length now, and is true of the history now
  pub told : IfSome (named reply) (λ n. (n ≡ length after) × IsTrueOf map after caller act reply)
  -- an accepted edit is an entry more
  pub grown : IsSome (accepted reply) → length before < length after
