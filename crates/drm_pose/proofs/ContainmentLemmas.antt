-- The boxes of a link hold the link, where the boxes before it hold the chain before it.
use Rattle.std.proofs.Common.{◌≡◌, inl, inr, ℤ, pos, ◌+ℤ◌, ◌*ℤ◌, ◌≤ℤ◌, ◌<ℤ◌, [], ◌∷◌, refl, sym, subst}
use Rattle.drm_num.specs.Fraction.{Fraction}
use Rattle.drm_num.specs.Interval.{Interval, IsOrdered, Lies, Overlaps, unit}
use Rattle.drm_num.specs.Arithmetic.{sum, common_part, unit_interval, product_sum, product_difference}
use Rattle.drm_num.proofs.Integers.{le_self, max_is, min_is, product_above_zero}
use Rattle.drm_num.proofs.IntervalLemmas.{Lies-same, Lies-sum, Lies-ulps, Overlaps-from_meets}
use Rattle.drm_num.proofs.CommonBottom.{Lies-multiple, Lies-turned_sum, Lies-turned_difference}
use Rattle.drm_num.proofs.Ring.{Var, Sum, Prod, ring}
use Rattle.drm_half.proofs.TurnLemmas.{Lies-cosine, Lies-sine}
use Rattle.drm_half.specs.Turned.{cosine_interval, sine_interval}
use Rattle.drm_pose.specs.declared.boxes.Plate.{Plate}
use Rattle.drm_pose.specs.Boxes.{Span, turned_box, scaled_box, link_box}
use Rattle.drm_pose.specs.Chain.{Joint, Chain, cosine_top, sine_top, turn_bottom, turned}
use Rattle.drm_pose.specs.Enclosure.{LiesIn, tangent, direction_of, end_of, shift_of, IsUnit, HoldsDirection, HoldsLink}
use Rattle.drm_pose.proofs.DirectionLemmas.{turn_bottom_above, IsUnit-turned, Lies-unit_x, Lies-unit_y}

-- ---- one coordinate

-- what lies in both intervals lies in their common part
Lies-common_part : {x : Fraction} (a b : Interval) → Lies x a → Lies x b → Lies x (common_part a b)
Lies-common_part {x} a b h k = record {
  proper = h.proper;
  above = elim (max_is a.lo b.lo) [
    | inl e ↦ subst (λ (t : ℤ). (t *ℤ x.bottom) ≤ℤ (unit *ℤ x.top)) (sym e) h.above
    | inr e ↦ subst (λ (t : ℤ). (t *ℤ x.bottom) ≤ℤ (unit *ℤ x.top)) (sym e) k.above
  ];
  below = elim (min_is a.hi b.hi) [
    | inl e ↦ subst (λ (t : ℤ). (unit *ℤ x.top) ≤ℤ (t *ℤ x.bottom)) (sym e) h.below
    | inr e ↦ subst (λ (t : ℤ). (unit *ℤ x.top) ≤ℤ (t *ℤ x.bottom)) (sym e) k.below
  ];
}

-- the end of the link, from its base and its displacement
Lies-tip : (p d e m : ℤ) (a b : Interval) → pos 0 <ℤ e → Lies (record { top = p; bottom = d }) a → Lies (record { top = m; bottom = d *ℤ e }) b → Lies (record { top = (e *ℤ p) +ℤ m; bottom = d *ℤ e }) (sum a b)
Lies-tip p d e m a b above in_a in_b =
    let point = Var 0 in
    let bottom = Var 1 in
    let turn = Var 2 in
    let shift = Var 3 in
    let same : ((p *ℤ (d *ℤ e)) +ℤ (m *ℤ d)) *ℤ (d *ℤ e) ≡ ((e *ℤ p) +ℤ m) *ℤ (d *ℤ (d *ℤ e)) =
    ring (p ∷ d ∷ e ∷ m ∷ []) (Prod (Sum (Prod point (Prod bottom turn)) (Prod shift bottom)) (Prod bottom turn)) (Prod (Sum (Prod turn point) shift) (Prod bottom (Prod bottom turn))) refl in
    Lies-same (product_above_zero in_a.proper above) (record { same = same }) (Lies-sum in_a in_b)

-- ---- one link

-- a direction, turned, lies in the sum and the difference of products
Lies-before_cut_x : (d : ℤ) (c : Chain) (j : Joint) (box : Plate) (t : Interval) → LiesIn (direction_of c) box → Lies (tangent d j.n) t → Lies (record { top = (turned d c j).x; bottom = (turned d c j).d }) (product_difference box.x (cosine_interval t) box.y (sine_interval t))
Lies-before_cut_x d c j box t h in_t =
    Lies-turned_difference c.x (cosine_top d j.n) c.y (sine_top d j.n) c.d (turn_bottom d j.n) h.x (Lies-cosine in_t) h.y (Lies-sine in_t)

Lies-before_cut_y : (d : ℤ) (c : Chain) (j : Joint) (box : Plate) (t : Interval) → LiesIn (direction_of c) box → Lies (tangent d j.n) t → Lies (record { top = (turned d c j).y; bottom = (turned d c j).d }) (product_sum box.x (sine_interval t) box.y (cosine_interval t))
Lies-before_cut_y d c j box t h in_t =
    Lies-turned_sum c.x (sine_top d j.n) c.y (cosine_top d j.n) c.d (turn_bottom d j.n) h.x (Lies-sine in_t) h.y (Lies-cosine in_t)

-- the turned box holds each turned direction
pub turned_box-holds : (d : ℤ) (c : Chain) (j : Joint) (box : Plate) (t : Interval) → IsUnit c → LiesIn (direction_of c) box → Lies (tangent d j.n) t → LiesIn (direction_of (turned d c j)) (turned_box box t)
turned_box-holds d c j box t is_unit h in_t =
    let after = IsUnit-turned d c j in_t.proper is_unit in
    record {
      x = Lies-common_part _ unit_interval (Lies-before_cut_x d c j box t h in_t) (Lies-unit_x (turned d c j) after);
      y = Lies-common_part _ unit_interval (Lies-before_cut_y d c j box t h in_t) (Lies-unit_y (turned d c j) after);
    }

-- so before the cut each box has a common part with the numbers from -1 to 1
pub overlaps_x : (d : ℤ) (c : Chain) (j : Joint) (box : Plate) (t : Interval) → IsUnit c → LiesIn (direction_of c) box → Lies (tangent d j.n) t → Overlaps (product_difference box.x (cosine_interval t) box.y (sine_interval t)) unit_interval
overlaps_x d c j box t is_unit h in_t =
    Overlaps-from_meets (record {
      common = record { top = (turned d c j).x; bottom = (turned d c j).d };
      in_first = Lies-before_cut_x d c j box t h in_t;
      in_second = Lies-unit_x (turned d c j) (IsUnit-turned d c j in_t.proper is_unit);
    })

pub overlaps_y : (d : ℤ) (c : Chain) (j : Joint) (box : Plate) (t : Interval) → IsUnit c → LiesIn (direction_of c) box → Lies (tangent d j.n) t → Overlaps (product_sum box.x (sine_interval t) box.y (cosine_interval t)) unit_interval
overlaps_y d c j box t is_unit h in_t =
    Overlaps-from_meets (record {
      common = record { top = (turned d c j).y; bottom = (turned d c j).d };
      in_first = Lies-before_cut_y d c j box t h in_t;
      in_second = Lies-unit_y (turned d c j) (IsUnit-turned d c j in_t.proper is_unit);
    })

-- the boxes of one more link hold it
pub link_box-holds : (d : ℤ) (c : Chain) (j : Joint) (direction tip : Plate) (span : Span) → IsUnit c → j.len ≡ span.len → pos 0 ≤ℤ span.len → LiesIn (direction_of c) direction → LiesIn (end_of c) tip → Lies (tangent d j.n) span.tangents → HoldsLink d c j (link_box direction tip span)
link_box-holds d c j direction tip span is_unit same not_negative in_direction in_tip in_span =
    let along_x : LiesIn (direction_of (turned d c j)) (turned_box direction span.tangents) = turned_box-holds d c j direction span.tangents is_unit in_direction in_span in
    let long : LiesIn (shift_of d c j) (scaled_box span.len (turned_box direction span.tangents)) =
    rw same (record {
      x = Lies-multiple span.len _ _ not_negative along_x.x;
      y = Lies-multiple span.len _ _ not_negative along_x.y;
    }) in
    let above = turn_bottom_above d j.n in_span.proper in
    record {
      direction = along_x;
      base = in_tip;
      shift = long;
      tip = record {
        x = Lies-tip c.px c.d (turn_bottom d j.n) _ _ _ above in_tip.x long.x;
        y = Lies-tip c.py c.d (turn_bottom d j.n) _ _ _ above in_tip.y long.y;
      };
    }

-- ---- at the least tangent of an interval

-- the joint whose tangent is the lower end
least_joint : Interval → Joint
least_joint t = record { len = pos 0; n = t.lo }

in_interval : (t : Interval) → IsOrdered t → Lies (tangent unit (least_joint t).n) t
unfolding least_joint
in_interval t h = Lies-ulps t.lo t (le_self t.lo) h

-- so where a box holds a direction, both products overlap the numbers from -1 to 1, and the turned box holds a direction
pub some_overlap_x : (box : Plate) (t : Interval) → IsOrdered t → HoldsDirection box → Overlaps (product_difference box.x (cosine_interval t) box.y (sine_interval t)) unit_interval
some_overlap_x box t ordered h = overlaps_x unit h.chain (least_joint t) box t h.is_unit h.inside (in_interval t ordered)

pub some_overlap_y : (box : Plate) (t : Interval) → IsOrdered t → HoldsDirection box → Overlaps (product_sum box.x (sine_interval t) box.y (cosine_interval t)) unit_interval
some_overlap_y box t ordered h = overlaps_y unit h.chain (least_joint t) box t h.is_unit h.inside (in_interval t ordered)

pub HoldsDirection-turned : (box : Plate) (t : Interval) → IsOrdered t → HoldsDirection box → HoldsDirection (turned_box box t)
HoldsDirection-turned box t ordered h =
    let in_t = in_interval t ordered in
    record {
      chain = turned unit h.chain (least_joint t);
      is_unit = IsUnit-turned unit h.chain (least_joint t) in_t.proper h.is_unit;
      inside = turned_box-holds unit h.chain (least_joint t) box t h.is_unit h.inside in_t;
    }

-- ---- the same, of values that equal these

pub overlap_x_of : (box : Plate) (t c s r : Interval) → c ≡ cosine_interval t → s ≡ sine_interval t → r ≡ product_difference box.x c box.y s → IsOrdered t → HoldsDirection box → Overlaps r unit_interval
overlap_x_of box t c s r is_c is_s is_r ordered h = rw (is_r, is_c, is_s) (some_overlap_x box t ordered h)

pub overlap_y_of : (box : Plate) (t c s r : Interval) → c ≡ cosine_interval t → s ≡ sine_interval t → r ≡ product_sum box.x s box.y c → IsOrdered t → HoldsDirection box → Overlaps r unit_interval
overlap_y_of box t c s r is_c is_s is_r ordered h = rw (is_r, is_c, is_s) (some_overlap_y box t ordered h)
