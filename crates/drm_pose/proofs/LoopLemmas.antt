-- How far the boxes of a pose have come after some of the joints.
use Rattle.std.proofs.Common.{◌≡◌, ℕ, ◌+◌, ◌<◌, ◌≤◌, ◌^◌, ℤ, pos, ◌*ℤ◌, ◌≤ℤ◌, List, [], ◌∷◌, ◌++◌, length, take, drop, set, slice_get, Some, refl, sym, ap, ◌∙◌, arith, append_assoc}
use Rattle.std.proofs.lemmas.Int.{ints}
use Rattle.std.proofs.lemmas.List.{take_more_set, drop_all, append-nil}
use Rattle.std.proofs.lemmas.List.Sums.{sum_by_push, sum_by-take-le}
use Rattle.drm_num.specs.Interval.{unit}
use Rattle.drm_arm.specs.declared.arm.Link.{Link}
use Rattle.drm_arm.specs.Arm.{IsArm, reach_of}
use Rattle.drm_pose.specs.declared.boxes.Plate.{Plate}
use Rattle.drm_pose.specs.declared.boxes.LinkBox.{LinkBox}
use Rattle.drm_pose.specs.Boxes.{Span, first_axis, origin, link_box, boxes_from}
use Rattle.drm_pose.specs.Chain.{base}
use Rattle.drm_pose.specs.Enclosure.{HoldsDirection}
use Rattle.drm_pose.specs.Widths.{IsPlateWithin}
use Rattle.drm_pose.proofs.DirectionLemmas.{IsUnit-base}
use Rattle.drm_pose.proofs.EnclosureLemmas.{base_direction}
use Rattle.drm_half.specs.Turned.{between}
use Rattle.drm_pose.proofs.EndLemmas.{spans_of, slice_get-spans_of, length-spans_of}
use Rattle.drm_pose.proofs.SpanLemmas.{drop-at, take-at}
use Rattle.drm_pose.proofs.WidthLemmas.{IsPlateWithin-wider, IsPlateWithin-tip, IsPlateWithin-turned, origin_within}

-- after k joints: the boxes so far and those of the joints left are the boxes of all joints
pub record SoFar (arm : List Link) (all : List Span) (k : ℕ) (direction tip : Plate) (links : List LinkBox) : Type 0 where
  pub rest : take k links ++ boxes_from direction tip (drop k all) ≡ boxes_from first_axis origin all
  pub within : IsPlateWithin unit direction
  pub some : HoldsDirection direction
  pub near : IsPlateWithin (pos (reach_of (take k arm)) *ℤ unit) tip

pub none_yet : (arm : List Link) (all : List Span) (links : List LinkBox) → SoFar arm all 0 first_axis origin links
none_yet arm all links = record {
  rest = refl;
  within = record { x = record { low = omega (arith, ints); high = omega (arith, ints) }; y = record { low = omega (arith, ints); high = omega (arith, ints) } };
  some = record { chain = base; is_unit = IsUnit-base; inside = base_direction };
  near = origin_within;
}

-- the reach after one more link
reach_next : (arm : List Link) (k : ℕ) (link : Link) → slice_get arm k ≡ Some link → reach_of (take (k + 1) arm) ≡ reach_of (take k arm) + link.len
reach_next arm k link h = ap reach_of (take-at arm k link h) ∙ sum_by_push (λ (l : Link). l.len) (take k arm) link

-- the end of the links so far is no further than the reach
pub near_base : (arm : List Link) (k : ℕ) (tip : Plate) → IsArm arm → IsPlateWithin (pos (reach_of (take k arm)) *ℤ unit) tip → IsPlateWithin (pos (2 ^ 49)) tip
near_base arm k tip is_arm h =
    let limit : (pos (reach_of (take k arm)) *ℤ unit) ≤ℤ pos (2 ^ 49) = omega (arith, ints, sum_by-take-le (λ (l : Link). l.len) arm k, is_arm.reach) in
    IsPlateWithin-wider limit h

pub one_more : (arm : List Link) (starts ends : List ℤ) (k : ℕ) (direction tip : Plate) (links : List LinkBox) (link : Link) (a b : ℤ) (box : LinkBox) →
    SoFar arm (spans_of arm starts ends) k direction tip links → slice_get arm k ≡ Some link → slice_get starts k ≡ Some a → slice_get ends k ≡ Some b → k < length links →
    box ≡ link_box direction tip (record { len = pos link.len; tangents = between a b }) → HoldsDirection box.direction →
    SoFar arm (spans_of arm starts ends) (k + 1) box.direction box.tip (set links k box)
one_more arm starts ends k direction tip links link a b box so_far is_link is_a is_b room is_box some =
    let all = spans_of arm starts ends in
    let span : Span = record { len = pos link.len; tangents = between a b } in
    let up : pos 0 ≤ℤ span.len = omega (arith, ints) in
    let left : drop k (spans_of arm starts ends) ≡ span ∷ drop (k + 1) (spans_of arm starts ends) = drop-at _ k span (slice_get-spans_of arm starts ends k link a b is_link is_a is_b) in
    let before : take k links ++ (box ∷ boxes_from box.direction box.tip (drop (k + 1) (spans_of arm starts ends))) ≡ boxes_from first_axis origin (spans_of arm starts ends) =
    rw is_box (sym (ap (λ (xs : List Span). take k links ++ boxes_from direction tip xs) left) ∙ so_far.rest) in
    record {
      rest = rw (take_more_set links k box room, append_assoc) before;
      within = rw is_box (IsPlateWithin-turned direction span.tangents);
      some = some;
      near = rw (is_box, reach_next arm k link is_link) (IsPlateWithin-tip (pos (reach_of (take k arm))) direction tip span up so_far.near);
    }

-- after all joints
pub all_done : (arm : List Link) (all : List Span) (k : ℕ) (direction tip : Plate) (links : List LinkBox) → SoFar arm all k direction tip links → length all ≤ k → take k links ≡ boxes_from first_axis origin all
all_done arm all k direction tip links so_far h =
    let none : drop k all ≡ [] = drop_all k all h in
    sym (append-nil (take k links)) ∙ ap (λ (xs : List Span). take k links ++ boxes_from direction tip xs) (sym none) ∙ so_far.rest

pub all_between : (arm : List Link) (starts ends : List ℤ) (k count : ℕ) (direction tip : Plate) (links : List LinkBox) → SoFar arm (spans_of arm starts ends) k direction tip links → length starts ≡ length arm → length ends ≡ length arm → count ≡ length arm → k ≡ count →
    take count links ≡ boxes_from first_axis origin (spans_of arm starts ends)
all_between arm starts ends k count direction tip links so_far as_many_starts as_many_ends is_count last =
    ap (λ (n : ℕ). take n links) (sym last) ∙ all_done arm (spans_of arm starts ends) k direction tip links so_far (omega (arith, length-spans_of arm starts ends as_many_starts as_many_ends))
