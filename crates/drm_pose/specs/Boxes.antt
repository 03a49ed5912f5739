-- The boxes that a piece of a motion gives: what each step of the arithmetic is.
use Rattle.std.specs.Prelude.{ℕ, ◌+◌, ◌-◌, ◌^◌, ℤ, pos, ◌+ℤ◌, ◌-ℤ◌, ◌*ℤ◌, List, [], ◌∷◌, fold}
use Rattle.std.specs.Int.{int_min, int_max}
use Rattle.drm_num.specs.Interval.{Interval, unit}
use Rattle.drm_num.specs.Quotient.{floor, ceiling}
use Rattle.drm_num.specs.Arithmetic.{sum, scaled, hull, common_part, unit_interval, product_sum, product_difference, width}
use Rattle.drm_half.specs.Turned.{cosine_interval, sine_interval}
use Rattle.drm_arm.specs.declared.arm.Link.{Link}
use Rattle.drm_arm.specs.declared.config.Motion.{Motion}
use Rattle.drm_pose.specs.declared.boxes.Plate.{Plate}
use Rattle.drm_pose.specs.declared.boxes.LinkBox.{LinkBox}

-- the interval of one number of ulps
abbrev pub exactly : ℤ → Interval
exactly a = record { lo = a; hi = a }

-- a joint's half-angle tangent at the moment `i / 2^depth` of a motion, in ulps
abbrev pub tangent_at : ℤ → ℤ → ℕ → ℕ → ℤ
tangent_at from to depth i = ((from *ℤ pos (2 ^ depth)) +ℤ ((to -ℤ from) *ℤ pos i)) *ℤ pos (2 ^ (20 - depth))

-- the tangents of a joint over a piece of a motion: what lies between the two ends
abbrev pub joint_interval : ℤ → ℤ → ℕ → ℕ → Interval
joint_interval from to depth index = hull (exactly (tangent_at from to depth index)) (exactly (tangent_at from to depth (index + 1)))

-- the tangents of all joints at the moment `i / 2^depth` of a motion
abbrev pub tangents_between : List ℤ → List ℤ → ℕ → ℕ → List ℤ
tangents_between (a ∷ starts) (b ∷ ends) depth i = tangent_at a b depth i ∷ tangents_between starts ends depth i
tangents_between _ _ depth i = []

abbrev pub tangents_at : Motion → ℕ → ℕ → List ℤ
tangents_at motion depth i = tangents_between motion.from motion.to depth i

-- a joint over a piece of a motion: the length of its link, and its tangents
pub record Span : Type 0 where
  pub len : ℤ
  pub tangents : Interval

-- the joints that go from the first coordinates to the second, over a piece of the motion
abbrev pub spans_between : List Link → List ℤ → List ℤ → ℕ → ℕ → List Span
spans_between (link ∷ links) (a ∷ starts) (b ∷ ends) depth index = (record { len = pos link.len; tangents = joint_interval a b depth index }) ∷ spans_between links starts ends depth index
spans_between _ _ _ depth index = []

-- the joints of an arm over a piece of a motion
abbrev pub spans : List Link → Motion → ℕ → ℕ → List Span
spans links motion depth index = spans_between links motion.from motion.to depth index

-- the direction of the first axis, and the origin
abbrev pub first_axis : Plate
first_axis = record { x = exactly unit; y = exactly (pos 0) }

abbrev pub origin : Plate
origin = record { x = exactly (pos 0); y = exactly (pos 0) }

-- a box of directions, turned by a joint
abbrev pub turned_box : Plate → Interval → Plate
turned_box before t = record {
  x = common_part (product_difference before.x (cosine_interval t) before.y (sine_interval t)) unit_interval;
  y = common_part (product_sum before.x (sine_interval t) before.y (cosine_interval t)) unit_interval;
}

-- a box of directions, made as long as the link; and a box, moved by a box of displacements
abbrev pub scaled_box : ℤ → Plate → Plate
scaled_box len a = record { x = scaled len a.x; y = scaled len a.y }

abbrev pub moved_box : Plate → Plate → Plate
moved_box a b = record { x = sum a.x b.x; y = sum a.y b.y }

-- the boxes of the link of one more joint, from the boxes of the direction and the end of the link before
abbrev pub link_box : Plate → Plate → Span → LinkBox
link_box direction tip span = record {
  direction = turned_box direction span.tangents;
  base = tip;
  shift = scaled_box span.len (turned_box direction span.tangents);
  tip = moved_box tip (scaled_box span.len (turned_box direction span.tangents));
}

-- the boxes of the links from a joint on
abbrev pub boxes_from : Plate → Plate → List Span → List LinkBox
boxes_from direction tip [] = []
boxes_from direction tip (span ∷ rest) =
    let box = link_box direction tip span in
    box ∷ boxes_from box.direction box.tip rest

-- the boxes of the links of an arm over a piece of a motion
unfoldable pub pose_of : List Link → Motion → ℕ → ℕ → List LinkBox
pose_of links motion depth index = boxes_from first_axis origin (spans links motion depth index)

-- the greater width of the box of a link's end
abbrev pub tip_width : LinkBox → ℤ
tip_width box = int_max (width box.tip.x) (width box.tip.y)

-- the greatest width of the box of a joint point
abbrev pub spread_of : List LinkBox → ℤ
spread_of boxes = fold (λ most box. int_max most (tip_width box)) (pos 0) boxes

-- the interval of the pieces from p on and below q of n of a link, from the intervals of its base and of its displacement
abbrev pub parts_of : Interval → Interval → ℕ → ℕ → ℕ → Interval
parts_of from shift p q n = record {
  lo = from.lo +ℤ floor (int_min (shift.lo *ℤ pos p) (shift.lo *ℤ pos q)) (pos n);
  hi = from.hi +ℤ ceiling (int_max (shift.hi *ℤ pos p) (shift.hi *ℤ pos q)) (pos n);
}

-- the interval of piece p of n
abbrev pub part_of : Interval → Interval → ℕ → ℕ → Interval
part_of from shift p n = parts_of from shift p (p + 1) n

-- the box of piece p of n of a link
unfoldable pub piece_of : LinkBox → ℕ → ℕ → Plate
piece_of box p n = record { x = part_of box.base.x box.shift.x p n; y = part_of box.base.y box.shift.y p n }

-- the box of the pieces from p on and below q of n of a link
unfoldable pub run_of : LinkBox → ℕ → ℕ → ℕ → Plate
run_of box p q n = record { x = parts_of box.base.x box.shift.x p q n; y = parts_of box.base.y box.shift.y p q n }
