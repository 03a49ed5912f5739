-- What was read and what is left are all the links, and their lengths are summed.
use Rattle.std.proofs.Common.{◌≡◌, ◌-◌, ◌≤◌, []}
use Rattle.drm_mapfile.specs.Fields.{many}
use Rattle.drm_arm.specs.Arm.{reach_of}
use Rattle.drm_arm.specs.Limits.{max_reach}
use Rattle.drm_mapfile.specs.Reading.{link_at}
use Rattle.drm_mapfile.proofs.arm.take_links.Given as goal

abbrev pub invariant-loop : goal.invariant-loop
invariant-loop l = record {
  so_far : many (λ front. link_at l.total (reach_of front)) (l.count - l.counter) l.links.items l.rest ≡ many (λ front. link_at l.total (reach_of front)) l.count [] l.bytes;
  sum : l.reach ≡ reach_of l.links.items;
  few : l.reach ≤ max_reach;
}
