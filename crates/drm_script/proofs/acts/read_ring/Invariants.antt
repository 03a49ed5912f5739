-- the coordinates so far, and what is left
use Rattle.std.proofs.Common.{◌≡◌, ◌≤◌, ◌-◌, [], take, length}
use Rattle.drm_script.specs.Limits.{ring_limit}
use Rattle.drm_script.specs.Reader.{signed_at, all_of}
use Rattle.drm_script.proofs.acts.read_ring.Given as goal

abbrev pub invariant-loop-xy : goal.invariant-loop-xy
invariant-loop-xy l = record {
  read : all_of signed_at (ring_limit - l.count) (take l.count l.xy) l.words.words ≡ all_of signed_at ring_limit [] l.initial.words.words;
  behind : l.words.behind ≡ l.initial.words.behind;
  few : l.count ≤ ring_limit;
  places : length l.xy ≡ ring_limit;
}

abbrev pub decreases-loop-xy : goal.decreases-loop-xy
decreases-loop-xy l = ring_limit - l.count
