-- The replies to one caller's lines, as far as the caller sees the history.
use Rattle.std.specs.Prelude.{ℕ, ◌≡◌, List, length, All, AllPairs, filter_map, zip}
use Rattle.drm_talk.specs.Exchange.{accepted}
use Rattle.drm_talk.specs.declared.Entry.{Entry}
use Rattle.drm_talk.specs.declared.Line.{Line}
use Rattle.drm_talk.specs.declared.Reply.{Reply}
use Rattle.drm_cellmap.specs.Roadmap.{Roadmap}
use Rattle.drm_report.specs.Reply.{RightReply}
use Rattle.drm_report.specs.Report.{IsNotBelow}

-- how many of the replies tell of an accepted edit
abbrev pub edits_in : List Reply → ℕ
edits_in replies = length (filter_map accepted replies)

-- the replies are right for the caller's lines over a front of the history, which need hold no more than the caller saw
pub record AreRightOver (map : Roadmap) (caller : ℕ) (lines : List Line) (replies : List Reply) (front : List Entry) : Type 0 where
  pub one_each : length replies ≡ length lines
  pub right : All (λ x. RightReply map front caller x.0.act x.1) (zip lines replies)
  -- what a reply names is no smaller than what the caller had seen
  pub rising : AllPairs (λ x y. IsNotBelow x.1 y.1) (zip lines replies)
