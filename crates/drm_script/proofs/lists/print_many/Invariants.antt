-- the values so far
use Rattle.std.proofs.Common.{◌≡◌, ◌++◌, take, flat_map, string_bytes}
use Rattle.drm_script.specs.Words.{spaced}
use Rattle.drm_script.proofs.lists.print_many.Given as goal

abbrev pub invariant-loop-value : goal.invariant-loop-value
invariant-loop-value g l = string_bytes l.text ≡ string_bytes l.initial.text ++ spaced (flat_map g.T.Field.words_of (take l.value-index l.values))
