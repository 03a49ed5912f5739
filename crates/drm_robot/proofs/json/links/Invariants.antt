-- The links so far, and those of the values that are left, are all the links.
use Rattle.std.proofs.Common.{◌≡◌, drop}
use Rattle.serde_json.specs.View.{items_view}
use Rattle.drm_robot.specs.Reading.{links_of}
use Rattle.drm_robot.proofs.ReadingLemmas.{with_front}
use Rattle.drm_robot.proofs.json.links.Given as goal

abbrev pub invariant-loop-value : goal.invariant-loop-value
invariant-loop-value l = with_front l.links.items (links_of (items_view (drop l.value-index l.array))) ≡ links_of (items_view l.array)
