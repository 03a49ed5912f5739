-- the lines so far
use Rattle.std.proofs.Common.{◌≡◌, take}
use Rattle.std.specs.List.{count_by}
use Rattle.std.specs.Prelude.{◌==◌}
use Rattle.drm_script.specs.Words.{is_open}
use Rattle.drm_script.proofs.words.count_lines.Given as goal

abbrev pub invariant-loop-byte : goal.invariant-loop-byte
invariant-loop-byte l = record {
  count : l.count ≡ count_by (λ b. b == 10) (take l.byte-index l.bytes);
  left_open : l.open ≡ is_open (take l.byte-index l.bytes);
}
