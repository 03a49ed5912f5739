-- Pieces of a motion with the tangents at which they begin and end.
use Rattle.std.specs.Prelude.{◌≡◌, ◌+◌, ◌*◌, ◌^◌, ◌≤◌, ◌<◌, ℤ, List, length}
use Rattle.drm_arm.specs.declared.arm.Link.{Link}
use Rattle.drm_arm.specs.declared.config.Motion.{Motion}
use Rattle.drm_pose.specs.Boxes.{tangents_at}
use Rattle.drm_sweep.specs.declared.sweeper.Piece.{Piece}

-- a piece of a motion of the arm, halved at most 20 times, with the tangents of all joints at its two ends
pub record IsPiece (links : List Link) (motion : Motion) (piece : Piece) : Type 0 where
  pub depth : piece.depth ≤ 20
  pub index : piece.index < 2 ^ piece.depth
  pub start : piece.start.now ≡ tangents_at motion piece.depth piece.index
  pub end : piece.end.now ≡ tangents_at motion piece.depth (piece.index + 1)
  pub starts : length piece.start.now ≡ length links
  pub ends : length piece.end.now ≡ length links

-- the tangents of all joints where the halves of the piece meet: the first begins as the piece does, and the second ends so
pub record IsMiddle (links : List Link) (motion : Motion) (piece : Piece) (tangents : List ℤ) : Type 0 where
  pub value : tangents ≡ tangents_at motion (piece.depth + 1) (2 * piece.index + 1)
  pub each : length tangents ≡ length links
  pub first : piece.start.now ≡ tangents_at motion (piece.depth + 1) (2 * piece.index)
  pub last : piece.end.now ≡ tangents_at motion (piece.depth + 1) (2 * piece.index + 1 + 1)
