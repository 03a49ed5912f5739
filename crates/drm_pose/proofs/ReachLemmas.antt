-- A reached point is no farther from the base than the arm's reach, the radius of the link and the pad.
use Rattle.std.proofs.Common.{◌≡◌, ℕ, zero, suc, ◌+◌, ◌≤◌, ℤ, pos, ◌+ℤ◌, ◌-ℤ◌, ◌*ℤ◌, ◌≤ℤ◌, ◌<ℤ◌, List, [], ◌∷◌, take, refl, sym, subst, arith}
use Rattle.std.proofs.lemmas.Int.{ints}
use Rattle.std.proofs.lemmas.List.Sums.{sum_by-cons}
use Rattle.drm_num.proofs.Distances.{squares_order, triangle}
use Rattle.drm_num.proofs.Integers.{along, cancels, keeps, keeps_right, le_of_lt_z, le_self, product_above_zero, product_not_negative, square_not_negative, sum_not_negative, sums, trans}
use Rattle.drm_num.proofs.Ring.{Var, Sum, Prod, Neg, ring}
use Rattle.drm_arm.specs.declared.arm.Link.{Link}
use Rattle.drm_arm.specs.Arm.{reach_of}
use Rattle.drm_pose.specs.Chain.{Joint, Point, Chain, base, turn_bottom, turned, chain_from, chain_of, axis_point, joint_of, axis_of}
use Rattle.drm_pose.specs.Enclosure.{IsUnit}
use Rattle.drm_pose.specs.Laws.{ReachedIsWithin}
use Rattle.drm_pose.specs.Moment.{Moment, denominator, joints_between, joints_at, axis_at}
use Rattle.drm_pose.specs.Reach.{AreNear}
use Rattle.drm_pose.proofs.DirectionLemmas.{turn_bottom_above, IsUnit-turned, IsUnit-base, IsUnit-chain}

-- ---- vectors

-- the vector (x, y) is no longer than r
record IsShort (x y r : ℤ) : Type 0 where
  up : pos 0 ≤ℤ r
  near : ((x *ℤ x) +ℤ (y *ℤ y)) ≤ℤ (r *ℤ r)

square_times : (k x y : ℤ) → ((k *ℤ x) *ℤ (k *ℤ x)) +ℤ ((k *ℤ y) *ℤ (k *ℤ y)) ≡ (k *ℤ k) *ℤ ((x *ℤ x) +ℤ (y *ℤ y))
square_times k x y =
    let a = Var 0 in
    let b = Var 1 in
    let c = Var 2 in
    ring (k ∷ x ∷ y ∷ []) (Sum (Prod (Prod a b) (Prod a b)) (Prod (Prod a c) (Prod a c))) (Prod (Prod a a) (Sum (Prod b b) (Prod c c))) refl

square_of : (k r : ℤ) → (k *ℤ r) *ℤ (k *ℤ r) ≡ (k *ℤ k) *ℤ (r *ℤ r)
square_of k r =
    let a = Var 0 in
    let b = Var 1 in
    ring (k ∷ r ∷ []) (Prod (Prod a b) (Prod a b)) (Prod (Prod a a) (Prod b b)) refl

IsShort-times : (k : ℤ) {x y r : ℤ} → pos 0 ≤ℤ k → IsShort x y r → IsShort (k *ℤ x) (k *ℤ y) (k *ℤ r)
IsShort-times k {x} {y} {r} k_up h = record {
  up = product_not_negative k_up h.up;
  near = along (sym (square_times k x y)) (sym (square_of k r)) (keeps (k *ℤ k) (square_not_negative k) h.near);
}

IsShort-cancelled : (k : ℤ) {x y r : ℤ} → pos 0 <ℤ k → pos 0 ≤ℤ r → IsShort (k *ℤ x) (k *ℤ y) (k *ℤ r) → IsShort x y r
IsShort-cancelled k {x} {y} {r} above r_up h = record {
  up = r_up;
  near = cancels (k *ℤ k) (product_above_zero above above) (along (square_times k x y) (square_of k r) h.near);
}

IsShort-sum : {x y r z w s : ℤ} → IsShort x y r → IsShort z w s → IsShort (x +ℤ z) (y +ℤ w) (r +ℤ s)
IsShort-sum {x} {y} {r} {z} {w} {s} h k = record { up = sum_not_negative h.up k.up; near = triangle x y z w h.up k.up h.near k.near }

IsShort-longer : {x y r s : ℤ} → r ≤ℤ s → IsShort x y r → IsShort x y s
IsShort-longer {x} {y} {r} {s} longer h = record { up = trans h.up longer; near = trans h.near (squares_order h.up longer) }

-- ---- chains

-- the lengths of the links, none of them negative
abbrev AllUp : List Joint → Type 0
AllUp [] = Unit {0}
AllUp (j ∷ joints) = (pos 0 ≤ℤ j.len) × AllUp joints

abbrev total : List Joint → ℤ
total [] = pos 0
total (j ∷ joints) = j.len +ℤ total joints

total_up : (joints : List Joint) → AllUp joints → pos 0 ≤ℤ total joints
total_up [] up = omega (arith, ints)
total_up (j ∷ joints) up = omega (arith, ints, up.0, total_up joints up.1)

-- the links before link k, and link k
at_most_total : (joints : List Joint) (k : ℕ) → AllUp joints → (total (take k joints) +ℤ (joint_of joints k).len) ≤ℤ total joints
at_most_total [] zero up = omega (arith, ints)
at_most_total [] (suc k) up = omega (arith, ints)
at_most_total (j ∷ joints) zero up = omega (arith, ints, total_up joints up.1)
at_most_total (j ∷ joints) (suc k) up = omega (arith, ints, at_most_total joints k up.1)

joint_up : (joints : List Joint) (k : ℕ) → AllUp joints → pos 0 ≤ℤ (joint_of joints k).len
joint_up [] zero up = omega (arith, ints)
joint_up [] (suc k) up = omega (arith, ints)
joint_up (j ∷ joints) zero up = up.0
joint_up (j ∷ joints) (suc k) up = joint_up joints k up.1

AllUp-take : (joints : List Joint) (k : ℕ) → AllUp joints → AllUp (take k joints)
AllUp-take [] zero up = tt
AllUp-take [] (suc k) up = tt
AllUp-take (j ∷ joints) zero up = tt
AllUp-take (j ∷ joints) (suc k) up = (up.0, AllUp-take joints k up.1)

-- the direction is no longer than its denominator
direction_short : (c : Chain) → IsUnit c → IsShort c.x c.y c.d
direction_short c h = record { up = le_of_lt_z h.proper; near = along (sym h.unit_length) refl (omega (arith, ints)) }

-- a link further, the end is farther by the link's length at most
end_next : (d : ℤ) (c : Chain) (j : Joint) (r : ℤ) → pos 0 <ℤ d → pos 0 ≤ℤ j.len → IsUnit c → IsShort c.px c.py (r *ℤ c.d) → IsShort (turned d c j).px (turned d c j).py ((r +ℤ j.len) *ℤ (turned d c j).d)
end_next d c j r above len_up is_unit h =
    let b = turn_bottom d j.n in
    let before = IsShort-times b (le_of_lt_z (turn_bottom_above d j.n above)) h in
    let along_link = IsShort-times j.len len_up (direction_short (turned d c j) (IsUnit-turned d c j above is_unit)) in
    let x = Var 0 in
    let y = Var 1 in
    let z = Var 2 in
    let w = Var 3 in
    let together : (b *ℤ (r *ℤ c.d)) +ℤ (j.len *ℤ (c.d *ℤ b)) ≡ (r +ℤ j.len) *ℤ (c.d *ℤ b) =
    ring (b ∷ r ∷ c.d ∷ j.len ∷ []) (Sum (Prod x (Prod y z)) (Prod w (Prod z x))) (Prod (Sum y w) (Prod z x)) refl in
    subst (λ (t : ℤ). IsShort (turned d c j).px (turned d c j).py t) together (IsShort-sum before along_link)

end_within : (d : ℤ) (c : Chain) (joints : List Joint) (r : ℤ) → pos 0 <ℤ d → AllUp joints → IsUnit c → IsShort c.px c.py (r *ℤ c.d) → IsShort (chain_from d c joints).px (chain_from d c joints).py ((r +ℤ total joints) *ℤ (chain_from d c joints).d)
end_within d c [] r above up is_unit h =
    let same : r ≡ r +ℤ pos 0 = omega (arith, ints) in
    subst (λ (t : ℤ). IsShort c.px c.py (t *ℤ c.d)) same h
end_within d c (j ∷ joints) r above up is_unit h =
    let same : (r +ℤ j.len) +ℤ total joints ≡ r +ℤ (j.len +ℤ total joints) = omega (arith, ints) in
    let last = chain_from d (turned d c j) joints in
    subst (λ (t : ℤ). IsShort last.px last.py (t *ℤ last.d)) same
    (end_within d (turned d c j) joints (r +ℤ j.len) above up.1 (IsUnit-turned d c j above is_unit) (end_next d c j r above up.0 is_unit h))

base_short : IsShort base.px base.py (pos 0 *ℤ base.d)
base_short = record { up = omega (arith, ints); near = omega (arith, ints) }

-- the point at e / f of the axis of one more link
axis_next : (d : ℤ) (c : Chain) (j : Joint) (e f : ℕ) (r : ℤ) → pos 0 <ℤ d → e ≤ f → pos 0 ≤ℤ j.len → IsUnit c → IsShort c.px c.py (r *ℤ c.d) → IsShort (axis_point d c j e f).x (axis_point d c j e f).y ((r +ℤ j.len) *ℤ (axis_point d c j e f).d)
axis_next d c j e f r above most len_up is_unit h =
    let b = turn_bottom d j.n in
    let e_up : pos 0 ≤ℤ pos e = omega (arith, ints) in
    let f_up : pos 0 ≤ℤ pos f = omega (arith, ints) in
    let after = IsUnit-turned d c j above is_unit in
    let before = IsShort-times (pos f) f_up (IsShort-times b (le_of_lt_z (turn_bottom_above d j.n above)) h) in
    let along_link = IsShort-times (pos e) e_up (IsShort-times j.len len_up (direction_short (turned d c j) after)) in
    let link_up : pos 0 ≤ℤ (j.len *ℤ (c.d *ℤ b)) = product_not_negative len_up (le_of_lt_z after.proper) in
    let order : pos e ≤ℤ pos f = omega (arith, ints) in
    let part : (pos e *ℤ (j.len *ℤ (c.d *ℤ b))) ≤ℤ (pos f *ℤ (j.len *ℤ (c.d *ℤ b))) = keeps_right (j.len *ℤ (c.d *ℤ b)) link_up order in
    let x = Var 0 in
    let y = Var 1 in
    let z = Var 2 in
    let w = Var 3 in
    let v = Var 4 in
    let together : (pos f *ℤ (b *ℤ (r *ℤ c.d))) +ℤ (pos f *ℤ (j.len *ℤ (c.d *ℤ b))) ≡ (r +ℤ j.len) *ℤ (pos f *ℤ (c.d *ℤ b)) =
    ring (pos f ∷ b ∷ r ∷ c.d ∷ j.len ∷ []) (Sum (Prod x (Prod y (Prod z w))) (Prod x (Prod v (Prod w y)))) (Prod (Sum z v) (Prod x (Prod w y))) refl in
    IsShort-longer (along refl together (sums (le_self (pos f *ℤ (b *ℤ (r *ℤ c.d)))) part)) (IsShort-sum before along_link)

-- the points of an axis
axis_within : (d : ℤ) (joints : List Joint) (k e f : ℕ) → pos 0 <ℤ d → 1 ≤ f → e ≤ f → AllUp joints → IsShort (axis_of d joints k e f).x (axis_of d joints k e f).y (total joints *ℤ (axis_of d joints k e f).d) × (pos 0 <ℤ (axis_of d joints k e f).d)
axis_within d joints k e f above some most up =
    let c = chain_of d (take k joints) in
    let j = joint_of joints k in
    let is_unit = IsUnit-chain d base (take k joints) above IsUnit-base in
    let end = end_within d base (take k joints) (pos 0) above (AllUp-take joints k up) IsUnit-base base_short in
    let point = axis_next d c j e f (pos 0 +ℤ total (take k joints)) above most (joint_up joints k up) is_unit end in
    let f_above : pos 0 <ℤ pos f = omega (arith, ints) in
    let bottom : pos 0 <ℤ (pos f *ℤ (c.d *ℤ turn_bottom d j.n)) = product_above_zero f_above (product_above_zero is_unit.proper (turn_bottom_above d j.n above)) in
    let lengths : ((pos 0 +ℤ total (take k joints)) +ℤ j.len) ≤ℤ total joints = omega (arith, ints, at_most_total joints k up) in
    (IsShort-longer (keeps_right (axis_of d joints k e f).d (le_of_lt_z bottom) lengths) point, bottom)

-- ---- arms

AllUp-joints_between : (links : List Link) (from to : List ℤ) (m : Moment) → AllUp (joints_between links from to m)
AllUp-joints_between [] from to m = tt
AllUp-joints_between (link ∷ links) [] to m = tt
AllUp-joints_between (link ∷ links) (a ∷ starts) [] m = tt
AllUp-joints_between (link ∷ links) (a ∷ starts) (b ∷ ends) m = (omega (arith, ints), AllUp-joints_between links starts ends m)

total-joints_between : (links : List Link) (from to : List ℤ) (m : Moment) → total (joints_between links from to m) ≤ℤ pos (reach_of links)
total-joints_between [] from to m = omega (arith, ints)
total-joints_between (link ∷ links) [] to m = omega (arith, ints)
total-joints_between (link ∷ links) (a ∷ starts) [] m = omega (arith, ints)
total-joints_between (link ∷ links) (a ∷ starts) (b ∷ ends) m =
    omega (arith, ints, total-joints_between links starts ends m, sum_by-cons (λ (l : Link). l.len) link links)

-- what is near a point w that is within r of the base
near_within : (q w : Point) (far : ℕ) (r : ℤ) → pos 0 <ℤ q.d → pos 0 <ℤ w.d → pos 0 ≤ℤ r → AreNear q w far → IsShort w.x w.y (r *ℤ w.d) → IsShort q.x q.y ((r +ℤ pos far) *ℤ q.d)
near_within q w far r q_above w_above r_up near h =
    let far_up : pos 0 ≤ℤ pos far = omega (arith, ints) in
    let apart : IsShort ((q.x *ℤ w.d) -ℤ (w.x *ℤ q.d)) ((q.y *ℤ w.d) -ℤ (w.y *ℤ q.d)) (pos far *ℤ (q.d *ℤ w.d)) = record {
      up = product_not_negative far_up (le_of_lt_z (product_above_zero q_above w_above));
      near = near.near;
    } in
    let moved = IsShort-times q.d (le_of_lt_z q_above) h in
    let a = Var 0 in
    let b = Var 1 in
    let c = Var 2 in
    let g = Var 3 in
    let back : (x : ℤ) (y : ℤ) → (q.d *ℤ y) +ℤ ((x *ℤ w.d) -ℤ (y *ℤ q.d)) ≡ w.d *ℤ x = λ x y.
    ring (q.d ∷ y ∷ x ∷ w.d ∷ []) (Sum (Prod a b) (Sum (Prod c g) (Neg (Prod b a)))) (Prod g c) refl in
    let together : (q.d *ℤ (r *ℤ w.d)) +ℤ (pos far *ℤ (q.d *ℤ w.d)) ≡ w.d *ℤ ((r +ℤ pos far) *ℤ q.d) =
    ring (q.d ∷ r ∷ w.d ∷ pos far ∷ []) (Sum (Prod a (Prod b c)) (Prod g (Prod a c))) (Prod c (Prod (Sum b g) a)) refl in
    let whole : IsShort (w.d *ℤ q.x) (w.d *ℤ q.y) (w.d *ℤ ((r +ℤ pos far) *ℤ q.d)) =
    rw (← back q.x w.x, ← back q.y w.y, ← together) (IsShort-sum moved apart) in
    IsShort-cancelled w.d w_above (product_not_negative (sum_not_negative r_up far_up) (le_of_lt_z q_above)) whole

pub reached_within : ReachedIsWithin
reached_within links motion m pad q h =
    let joints = joints_at links motion m in
    let above : pos 0 <ℤ denominator m = omega (arith, ints, h.moment.proper) in
    let w = axis_at links motion m h.k h.e h.f in
    let axis = axis_within (denominator m) joints h.k h.e h.f above h.fraction h.on_axis (AllUp-joints_between links motion.from motion.to m) in
    let reach : IsShort w.x w.y (pos (reach_of links) *ℤ w.d) = IsShort-longer (keeps_right w.d (le_of_lt_z axis.1) (total-joints_between links motion.from motion.to m)) axis.0 in
    let sum : pos (reach_of links) +ℤ pos (h.link.radius + pad) ≡ pos (reach_of links + h.link.radius + pad) = omega (arith, ints) in
    let within = near_within q w (h.link.radius + pad) (pos (reach_of links)) h.proper axis.1 (omega (arith, ints)) h.near reach in
    (subst (λ (t : ℤ). IsShort q.x q.y (t *ℤ q.d)) sum within).near
