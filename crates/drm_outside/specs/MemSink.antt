-- A sink that keeps its bytes in memory: what its writes take, and which of them fail.
use Rattle.std.specs.Prelude.{◌≡◌, ℕ, List, [], ◌++◌, length, take, min, Contains}
use Rattle.drm_outside.specs.Causes.{counted_up}
use Rattle.drm_outside.specs.declared.faults.WriteFault.{WriteFault}
use Rattle.drm_outside.specs.declared.faults.WriteFault.TheVariants.{Failed, Memory}

-- the bytes taken, the most that a write takes, the numbers of the writes that fail, the writes so far, and the faults so far
pub record MemWrites : Type 0 where
  pub taken : List ℕ
  pub piece : ℕ
  pub failing : List ℕ
  pub calls : ℕ
  pub faults : ℕ

-- a sink that has taken nothing
abbrev pub unwritten : ℕ → List ℕ → MemWrites
unwritten piece failing = record { taken = []; piece = piece; failing = failing; calls = 0; faults = 0 }

-- the next write is one of those that fail
abbrev pub NextWriteFails : MemWrites → Type 0
NextWriteFails s = Contains s.failing (counted_up s.calls)

-- how many of the bytes the next write takes
abbrev pub takes : MemWrites → List ℕ → ℕ
takes s bytes = min (length bytes) s.piece

-- the sink after a write that took these bytes
abbrev pub after_write : MemWrites → List ℕ → MemWrites
after_write s bytes = record s { taken = s.taken ++ bytes; calls = counted_up s.calls }

-- the write took the first of the bytes, as many as it may, and nothing else happened
pub record Took (old new : MemWrites) (bytes : List ℕ) (n : ℕ) : Type 0 where
  pub count : n ≡ takes old bytes
  pub left : new ≡ after_write old (take n bytes)

-- the sink after a write that was refused: want of memory leaves all as it was, and a planned fault is counted
abbrev pub after_refused_write : MemWrites → WriteFault → MemWrites
after_refused_write s Failed = record s { calls = counted_up s.calls; faults = counted_up s.faults }
after_refused_write s Memory = s
