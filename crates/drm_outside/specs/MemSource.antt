-- A source over bytes in memory: what its reads give, and which of them fail.
use Rattle.std.specs.Prelude.{ℕ, List, length, drop, min, Contains}
use Rattle.drm_outside.specs.Causes.{counted_up}

-- the bytes that are left, the most that a read gives, the numbers of the reads that fail, the reads so far, and the faults so far
pub record MemReads : Type 0 where
  pub left : List ℕ
  pub piece : ℕ
  pub failing : List ℕ
  pub calls : ℕ
  pub faults : ℕ

-- a source that no call has read
abbrev pub unread : List ℕ → ℕ → List ℕ → MemReads
unread bytes piece failing = record { left = bytes; piece = piece; failing = failing; calls = 0; faults = 0 }

-- the next read is one of those that fail
abbrev pub NextReadFails : MemReads → Type 0
NextReadFails s = Contains s.failing (counted_up s.calls)

-- how many bytes the next read gives into a buffer
abbrev pub gives : MemReads → List ℕ → ℕ
gives s buffer = min (min (length buffer) s.piece) (length s.left)

-- the source after a read that gave n bytes
abbrev pub after_read : MemReads → ℕ → MemReads
after_read s n = record s { left = drop n s.left; calls = counted_up s.calls }

-- the source after a read that failed
abbrev pub after_failed_read : MemReads → MemReads
after_failed_read s = record s { calls = counted_up s.calls; faults = counted_up s.faults }
