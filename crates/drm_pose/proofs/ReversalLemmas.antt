-- A motion and its reverse have the same poses, in opposite orders.
use Rattle.std.proofs.Common.{◌≡◌, ℕ, ◌+◌, ◌-◌, ◌^◌, ℤ, pos, ◌+ℤ◌, ◌-ℤ◌, ◌*ℤ◌, List, [], ◌∷◌, refl, ap, ap₂, ◌∙◌, arith}
use Rattle.std.proofs.lemmas.Int.{ints}
use Rattle.std.specs.Int.{int_min, int_max}
use Rattle.drm_num.specs.Interval.{Interval}
use Rattle.drm_num.proofs.IntervalLemmas.{same_ends}
use Rattle.drm_num.proofs.Ring.{Var, Sum, Prod, Neg, ring}
use Rattle.drm_arm.specs.declared.arm.Link.{Link}
use Rattle.drm_pose.specs.Boxes.{tangent_at, joint_interval, Span, spans_between, first_axis, origin, boxes_from, pose_of}
use Rattle.drm_pose.specs.Laws.{ReversedPoses}

-- with i + j pieces, the tangent after j of them from b to a is the one after i of them from a to b
same_tangent : (a b i j k : ℤ) → ((b *ℤ (i +ℤ j)) +ℤ ((a -ℤ b) *ℤ j)) *ℤ k ≡ ((a *ℤ (i +ℤ j)) +ℤ ((b -ℤ a) *ℤ i)) *ℤ k
same_tangent a b i j k =
    let from = Var 0 in
    let to = Var 1 in
    let first = Var 2 in
    let second = Var 3 in
    let scale = Var 4 in
    let pieces = Sum first second in
    ring (a ∷ b ∷ i ∷ j ∷ k ∷ [])
    (Prod (Sum (Prod to pieces) (Prod (Sum from (Neg to)) second)) scale)
    (Prod (Sum (Prod from pieces) (Prod (Sum to (Neg from)) first)) scale) refl

tangent-reversed : (from to : ℤ) (depth i j : ℕ) → i + j ≡ 2 ^ depth → tangent_at to from depth j ≡ tangent_at from to depth i
tangent-reversed from to depth i j all =
    let pieces : pos (2 ^ depth) ≡ pos i +ℤ pos j = omega (arith, ints) in
    rw pieces (same_tangent from to (pos i) (pos j) (pos (2 ^ (20 - depth))))

min-comm : (a b : ℤ) → int_min a b ≡ int_min b a
min-comm a b = grind (arith, ints)

max-comm : (a b : ℤ) → int_max a b ≡ int_max b a
max-comm a b = grind (arith, ints)

interval-reversed : (from to : ℤ) (depth i j : ℕ) → i + j + 1 ≡ 2 ^ depth → joint_interval to from depth j ≡ joint_interval from to depth i
interval-reversed from to depth i j all =
    let start = tangent-reversed from to depth (i + 1) j (omega arith) in
    let end = tangent-reversed from to depth i (j + 1) (omega arith) in
    same_ends _ _
    (ap₂ int_min start end ∙ min-comm (tangent_at from to depth (i + 1)) (tangent_at from to depth i))
    (ap₂ int_max start end ∙ max-comm (tangent_at from to depth (i + 1)) (tangent_at from to depth i))

spans-reversed : (links : List Link) (from to : List ℤ) (depth i j : ℕ) → i + j + 1 ≡ 2 ^ depth → spans_between links to from depth j ≡ spans_between links from to depth i
spans-reversed [] from to depth i j all = refl
spans-reversed (link ∷ links) [] [] depth i j all = refl
spans-reversed (link ∷ links) [] (b ∷ ends) depth i j all = refl
spans-reversed (link ∷ links) (a ∷ starts) [] depth i j all = refl
spans-reversed (link ∷ links) (a ∷ starts) (b ∷ ends) depth i j all =
    ap₂ (λ (t : Interval) (rest : List Span). (record { len = pos link.len; tangents = t }) ∷ rest) (interval-reversed a b depth i j all) (spans-reversed links starts ends depth i j all)

pub reversed_pose : ReversedPoses
unfolding pose_of
reversed_pose links motion depth i j all = ap (λ (rest : List Span). boxes_from first_axis origin rest) (spans-reversed links motion.from motion.to depth i j all)
