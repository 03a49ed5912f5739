-- The gaps between a box and a cell are the distance between them.
use Rattle.std.proofs.Common.{◌≡◌, ◌⊎◌, inl, inr, ℕ, ◌+◌, ◌*◌, ◌<◌, ℤ, pos, ◌+ℤ◌, ◌-ℤ◌, ◌*ℤ◌, ◌≤ℤ◌, ◌<ℤ◌, refl, sym, ap, subst, ◌∙◌, [], ◌∷◌, arith}
use Rattle.std.specs.Int.{int_max}
use Rattle.std.proofs.lemmas.Int.{ints, clamps, by_lt_z}
use Rattle.std.proofs.lemmas.Bool.{cases_lt}
use Rattle.std.proofs.lemmas.Nat.{mul-add-lt, div-mul-add, mod-mul-add, div_below, mod_below, div-add-mod'}
use Rattle.drm_num.specs.Interval.{Interval, Lies, IsOrdered, unit}
use Rattle.drm_num.specs.Arithmetic.{gap}
use Rattle.drm_num.proofs.Integers.{along, keeps, keeps_right, trans, sums, max_second, product_not_negative, product_above_zero, square_not_negative, cancels_right}
use Rattle.drm_num.proofs.Distances.{squares_order, root_order}
use Rattle.drm_num.proofs.IntervalLemmas.{gap-apart, Lies-ulps}
use Rattle.drm_num.proofs.Ring.{Var, Sum, Prod, Neg, ring}
use Rattle.drm_grid.specs.Layout.{Layout, cell_count, line_at, row_of, column_of}
use Rattle.drm_grid.specs.Strips.{strip}
use Rattle.drm_grid.specs.Near.{IsNearBox, gap_across, gap_up}
use Rattle.drm_grid.specs.Laws.{AreNearPoints, IsAtPlace, HasPlace}
use Rattle.drm_grid.proofs.StripLemmas.{line_at-next}

pub gap_not_negative : (a s : Interval) → pos 0 ≤ℤ gap a s
gap_not_negative a s = max_second (int_max (s.lo -ℤ a.hi) (a.lo -ℤ s.hi)) (pos 0)

-- ---- points of the cell and of the box

-- a coordinate of a point of a strip lies in it
Lies-strip : (a b x d : ℤ) → pos 0 <ℤ d → (a *ℤ d) ≤ℤ x → x ≤ℤ (b *ℤ d) → Lies (record { top = x; bottom = d }) (record { lo = a *ℤ unit; hi = b *ℤ unit })
Lies-strip a b x d positive low high =
    let u = Var 0 in
    let v = Var 1 in
    let w = Var 2 in
    let turn_low : unit *ℤ (a *ℤ d) ≡ (a *ℤ unit) *ℤ d = ring (a ∷ d ∷ unit ∷ []) (Prod w (Prod u v)) (Prod (Prod u w) v) refl in
    let turn_high : unit *ℤ (b *ℤ d) ≡ (b *ℤ unit) *ℤ d = ring (b ∷ d ∷ unit ∷ []) (Prod w (Prod u v)) (Prod (Prod u w) v) refl in
    let unit_up : pos 0 ≤ℤ unit = omega (arith, ints) in
    record {
      proper = positive;
      above = along turn_low refl (keeps unit unit_up low);
      below = along refl turn_high (keeps unit unit_up high);
    }

-- the same square, whichever number is taken from the other
turned_square : (f s t : ℤ) → (f *ℤ (s -ℤ t)) *ℤ (f *ℤ (s -ℤ t)) ≡ (f *ℤ (t -ℤ s)) *ℤ (f *ℤ (t -ℤ s))
turned_square f s t =
    let u = Var 0 in
    let v = Var 1 in
    let w = Var 2 in
    ring (f ∷ s ∷ t ∷ []) (Prod (Prod u (Sum v (Neg w))) (Prod u (Sum v (Neg w)))) (Prod (Prod u (Sum w (Neg v))) (Prod u (Sum w (Neg v)))) refl

-- points of two intervals are at least the gap apart, in squares
gap_squared : (a s : Interval) (x d u e : ℤ) → pos 0 <ℤ d → pos 0 <ℤ e → Lies (record { top = u; bottom = e }) a → Lies (record { top = x; bottom = d }) s
    → ((gap a s *ℤ (d *ℤ e)) *ℤ (gap a s *ℤ (d *ℤ e))) ≤ℤ ((unit *ℤ ((x *ℤ e) -ℤ (u *ℤ d))) *ℤ (unit *ℤ ((x *ℤ e) -ℤ (u *ℤ d))))
gap_squared a s x d u e d_up e_up in_a in_s =
    let g = Var 0 in
    let p = Var 1 in
    let q = Var 2 in
    let turned : gap a s *ℤ (e *ℤ d) ≡ gap a s *ℤ (d *ℤ e) = ring (gap a s ∷ d ∷ e ∷ []) (Prod g (Prod q p)) (Prod g (Prod p q)) refl in
    let bottom : pos 0 <ℤ (d *ℤ e) = product_above_zero d_up e_up in
    let bottom_up : pos 0 ≤ℤ (d *ℤ e) = omega (arith, ints) in
    let not_negative : pos 0 ≤ℤ (gap a s *ℤ (d *ℤ e)) = product_not_negative (gap_not_negative a s) bottom_up in
    elim (gap-apart in_a in_s) [
      | inl under ↦ along refl (turned_square unit (u *ℤ d) (x *ℤ e)) (squares_order not_negative (along turned refl under))
      | inr over ↦ squares_order not_negative over
    ]

squares_scaled : (g h p : ℤ) → ((g *ℤ p) *ℤ (g *ℤ p)) +ℤ ((h *ℤ p) *ℤ (h *ℤ p)) ≡ ((g *ℤ g) +ℤ (h *ℤ h)) *ℤ (p *ℤ p)
squares_scaled g h p =
    let u = Var 0 in
    let v = Var 1 in
    let w = Var 2 in
    ring (g ∷ h ∷ p ∷ []) (Sum (Prod (Prod u w) (Prod u w)) (Prod (Prod v w) (Prod v w))) (Prod (Sum (Prod u u) (Prod v v)) (Prod w w)) refl

squares_scaled_left : (f s t : ℤ) → ((f *ℤ s) *ℤ (f *ℤ s)) +ℤ ((f *ℤ t) *ℤ (f *ℤ t)) ≡ (f *ℤ f) *ℤ ((s *ℤ s) +ℤ (t *ℤ t))
squares_scaled_left f s t =
    let u = Var 0 in
    let v = Var 1 in
    let w = Var 2 in
    ring (f ∷ s ∷ t ∷ []) (Sum (Prod (Prod u v) (Prod u v)) (Prod (Prod u w) (Prod u w))) (Prod (Prod u u) (Sum (Prod v v) (Prod w w))) refl

far_scaled : (f r p : ℤ) → (f *ℤ f) *ℤ ((r *ℤ p) *ℤ (r *ℤ p)) ≡ ((r *ℤ f) *ℤ (r *ℤ f)) *ℤ (p *ℤ p)
far_scaled f r p =
    let u = Var 0 in
    let v = Var 1 in
    let w = Var 2 in
    ring (f ∷ r ∷ p ∷ []) (Prod (Prod u u) (Prod (Prod v w) (Prod v w))) (Prod (Prod (Prod v u) (Prod v u)) (Prod w w)) refl

pub near_from_points : (grid : Layout) (across up : Interval) (cell far : ℕ) (x y d u v e : ℤ) → AreNearPoints grid across up cell far x y d u v e → IsNearBox grid across up cell far
near_from_points grid across up cell far x y d u v e points =
    let d_up = points.proper in
    let e_up = points.in_box_across.proper in
    let in_column = Lies-strip (line_at grid (column_of grid cell)) (line_at grid (column_of grid cell + 1)) x d d_up points.in_cell.left points.in_cell.right in
    let in_row = Lies-strip (line_at grid (row_of grid cell)) (line_at grid (row_of grid cell + 1)) y d d_up points.in_cell.bottom points.in_cell.top in
    let gx = gap_across grid across cell in
    let gy = gap_up grid up cell in
    let p = d *ℤ e in
    let sx = (x *ℤ e) -ℤ (u *ℤ d) in
    let sy = (y *ℤ e) -ℤ (v *ℤ d) in
    let squares = sums (gap_squared across (strip grid (column_of grid cell)) x d u e d_up e_up points.in_box_across in_column) (gap_squared up (strip grid (row_of grid cell)) y d v e d_up e_up points.in_box_up in_row) in
    let below : (((gx *ℤ gx) +ℤ (gy *ℤ gy)) *ℤ (p *ℤ p)) ≤ℤ ((unit *ℤ unit) *ℤ ((sx *ℤ sx) +ℤ (sy *ℤ sy))) = along (squares_scaled gx gy p) (squares_scaled_left unit sx sy) squares in
    let over : ((unit *ℤ unit) *ℤ ((sx *ℤ sx) +ℤ (sy *ℤ sy))) ≤ℤ (((pos far *ℤ unit) *ℤ (pos far *ℤ unit)) *ℤ (p *ℤ p)) = along refl (far_scaled unit (pos far) p) (keeps (unit *ℤ unit) (square_not_negative unit) points.within.near) in
    let p_up : pos 0 <ℤ p = product_above_zero d_up e_up in
    record { near = cancels_right (p *ℤ p) (product_above_zero p_up p_up) (trans below over) }

-- ---- and back

-- numbers of two intervals whose distance is the gap
record AreNearest (a s : Interval) (u x : ℤ) : Type 0 where
  u_low : a.lo ≤ℤ u
  u_high : u ≤ℤ a.hi
  x_low : s.lo ≤ℤ x
  x_high : x ≤ℤ s.hi
  apart : (x -ℤ u ≡ gap a s) ⊎ (u -ℤ x ≡ gap a s)

nearest : (a s : Interval) → IsOrdered a → IsOrdered s → (u : ℤ) × (x : ℤ) × AreNearest a s u x
nearest a s a_ordered s_ordered = by_lt_z a.hi s.lo
    (λ left. (a.hi, s.lo, record { u_low = a_ordered; u_high = omega (arith, ints); x_low = omega (arith, ints); x_high = s_ordered; apart = inl (omega (arith, ints, clamps)) }))
    (λ not_left. by_lt_z s.hi a.lo
    (λ right. (a.lo, s.hi, record { u_low = omega (arith, ints); u_high = a_ordered; x_low = s_ordered; x_high = omega (arith, ints); apart = inr (omega (arith, ints, clamps)) }))
    (λ not_right. (
      int_max a.lo s.lo,
      int_max a.lo s.lo,
      record {
        u_low = omega (arith, ints, clamps);
        u_high = omega (arith, ints, clamps);
        x_low = omega (arith, ints, clamps);
        x_high = omega (arith, ints, clamps);
        apart = inl (omega (arith, ints, clamps));
      },
    )))

apart_squared : (f u x g : ℤ) → (x -ℤ u ≡ g) ⊎ (u -ℤ x ≡ g) → ((x *ℤ f) -ℤ (u *ℤ f)) *ℤ ((x *ℤ f) -ℤ (u *ℤ f)) ≡ (g *ℤ f) *ℤ (g *ℤ f)
apart_squared f u x g apart =
    let a = Var 0 in
    let b = Var 1 in
    let c = Var 2 in
    elim apart [
      | inl e ↦ ring (f ∷ u ∷ x ∷ []) (Prod (Sum (Prod c a) (Neg (Prod b a))) (Sum (Prod c a) (Neg (Prod b a)))) (Prod (Prod (Sum c (Neg b)) a) (Prod (Sum c (Neg b)) a)) refl ∙ ap (λ (t : ℤ). (t *ℤ f) *ℤ (t *ℤ f)) e
      | inr e ↦ ring (f ∷ u ∷ x ∷ []) (Prod (Sum (Prod c a) (Neg (Prod b a))) (Sum (Prod c a) (Neg (Prod b a)))) (Prod (Prod (Sum b (Neg c)) a) (Prod (Sum b (Neg c)) a)) refl ∙ ap (λ (t : ℤ). (t *ℤ f) *ℤ (t *ℤ f)) e
    ]

in_ulps : (s : Interval) (u : ℤ) → s.lo ≤ℤ u → u ≤ℤ s.hi → Lies (record { top = u; bottom = unit }) s
in_ulps s u low high = Lies-ulps u s low high

pub points_from_near : (grid : Layout) (across up : Interval) (cell far : ℕ) → IsOrdered across → IsOrdered up → IsNearBox grid across up cell far
    → (x : ℤ) × (y : ℤ) × (d : ℤ) × (u : ℤ) × (v : ℤ) × (e : ℤ) × AreNearPoints grid across up cell far x y d u v e
points_from_near grid across up cell far across_ordered up_ordered is =
    let unit_up : pos 0 ≤ℤ unit = omega (arith, ints) in
    let column = strip grid (column_of grid cell) in
    let row = strip grid (row_of grid cell) in
    let (u, x, first) = nearest across column across_ordered (keeps_right unit unit_up (line_at-next grid (column_of grid cell))) in
    let (v, y, second) = nearest up row up_ordered (keeps_right unit unit_up (line_at-next grid (row_of grid cell))) in
    let gx = gap_across grid across cell in
    let gy = gap_up grid up cell in
    let left : ((((x *ℤ unit) -ℤ (u *ℤ unit)) *ℤ ((x *ℤ unit) -ℤ (u *ℤ unit))) +ℤ (((y *ℤ unit) -ℤ (v *ℤ unit)) *ℤ ((y *ℤ unit) -ℤ (v *ℤ unit)))) ≡ ((gx *ℤ gx) +ℤ (gy *ℤ gy)) *ℤ (unit *ℤ unit) =
    ap (λ (t : ℤ). t +ℤ (((y *ℤ unit) -ℤ (v *ℤ unit)) *ℤ ((y *ℤ unit) -ℤ (v *ℤ unit)))) (apart_squared unit u x gx first.apart)
    ∙ ap (λ (t : ℤ). ((gx *ℤ unit) *ℤ (gx *ℤ unit)) +ℤ t) (apart_squared unit v y gy second.apart)
    ∙ squares_scaled gx gy unit in
    let f = Var 0 in
    let r = Var 1 in
    let right : ((pos far *ℤ unit) *ℤ (pos far *ℤ unit)) *ℤ (unit *ℤ unit) ≡ (pos far *ℤ (unit *ℤ unit)) *ℤ (pos far *ℤ (unit *ℤ unit)) =
    ring (unit ∷ pos far ∷ []) (Prod (Prod (Prod r f) (Prod r f)) (Prod f f)) (Prod (Prod r (Prod f f)) (Prod r (Prod f f))) refl in (
      x,
      y,
      unit,
      u,
      v,
      unit,
      record {
        proper = omega (arith, ints);
        in_cell = record { left = first.x_low; right = first.x_high; bottom = second.x_low; top = second.x_high };
        in_box_across = in_ulps across u first.u_low first.u_high;
        in_box_up = in_ulps up v second.u_low second.u_high;
        within = record { near = along (sym left) right (keeps_right (unit *ℤ unit) (square_not_negative unit) is.near) };
      },
    )

-- ---- near cells are in near strips

pub gap_below : (g h r : ℤ) → pos 0 ≤ℤ r → ((g *ℤ g) +ℤ (h *ℤ h)) ≤ℤ (r *ℤ r) → g ≤ℤ r
gap_below g h r r_up within = root_order r_up (let h_up = square_not_negative h in omega (arith, ints))

pub gap_below_second : (g h r : ℤ) → pos 0 ≤ℤ r → ((g *ℤ g) +ℤ (h *ℤ h)) ≤ℤ (r *ℤ r) → h ≤ℤ r
gap_below_second g h r r_up within = root_order r_up (let g_up = square_not_negative g in omega (arith, ints))

-- ---- places

pub cell_at : (grid : Layout) (row column : ℕ) → row < grid.n → column < grid.n → IsAtPlace grid row column (row * grid.n + column)
cell_at grid row column in_rows in_columns = record {
  in_grid = mul-add-lt row grid.n column grid.n in_rows in_columns;
  row = div-mul-add row grid.n column in_columns;
  column = mod-mul-add row grid.n column in_columns;
}

pub place_of : (grid : Layout) (cell : ℕ) → cell < cell_count grid → HasPlace grid cell
place_of grid cell in_grid = elim (cases_lt 0 grid.n) [
  | inl some ↦ record { row = div_below cell grid.n grid.n some in_grid; column = mod_below cell grid.n some; place = div-add-mod' cell grid.n }
  | inr none ↦ (let zero_n : grid.n ≡ 0 = omega arith in let empty : cell < 0 * 0 = subst (λ (n : ℕ). cell < n * n) zero_n in_grid in absurd (omega arith))
]
