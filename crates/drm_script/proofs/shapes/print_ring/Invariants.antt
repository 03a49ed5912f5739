-- the corners so far
use Rattle.std.proofs.Common.{◌≡◌, ◌++◌, ◌*◌, take, flat_map, string_bytes}
use Rattle.drm_script.specs.Words.{spaced}
use Rattle.drm_script.specs.Log.{signed_words}
use Rattle.drm_script.proofs.shapes.print_ring.Given as goal

abbrev pub invariant-loop-i : goal.invariant-loop-i
invariant-loop-i l = string_bytes l.text ≡ string_bytes l.initial.text ++ spaced (flat_map signed_words (take (2 * l.i) l.ring))
