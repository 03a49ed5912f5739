-- The tangents of all joints at a moment, one by one, and the joints between two moments.
use Rattle.std.proofs.Common.{◌≡◌, ℕ, zero, suc, ◌+◌, ◌-◌, ◌*◌, ◌^◌, ◌<◌, ℤ, pos, ◌+ℤ◌, ◌-ℤ◌, ◌*ℤ◌, List, [], ◌∷◌, ◌++◌, length, take, set, slice_get, Some, refl, sym, ap, ap₂, ◌∙◌, arith}
use Rattle.std.proofs.lemmas.Int.{ints}
use Rattle.std.proofs.lemmas.List.{take_more_set}
use Rattle.std.proofs.lemmas.Nat.{pow-add}
use Rattle.drm_num.proofs.Ring.{Var, Lit, Sum, Prod, Neg, ring}
use Rattle.drm_num.specs.Interval.{IsOrdered}
use Rattle.drm_num.proofs.Integers.{trans, min_first, max_first}
use Rattle.drm_half.specs.Turned.{between}
use Rattle.drm_arm.specs.declared.arm.Link.{Link}
use Rattle.drm_arm.specs.declared.config.Motion.{Motion}
use Rattle.drm_pose.specs.Boxes.{tangent_at, tangents_between, tangents_at, Span, spans_between, first_axis, origin, boxes_from, pose_of}
use Rattle.drm_pose.specs.Laws.{HalvesShareEnds}
use Rattle.drm_pose.proofs.SpanLemmas.{take-at}

-- the joints whose tangents lie between the first and the second
abbrev pub spans_of : List Link → List ℤ → List ℤ → List Span
spans_of (link ∷ links) (a ∷ starts) (b ∷ ends) = (record { len = pos link.len; tangents = between a b }) ∷ spans_of links starts ends
spans_of _ _ _ = []

-- the joints over a piece are those between its ends
pub spans_are_between : (links : List Link) (from to : List ℤ) (depth index : ℕ) → spans_of links (tangents_between from to depth index) (tangents_between from to depth (index + 1)) ≡ spans_between links from to depth index
spans_are_between [] from to depth index = refl
spans_are_between (link ∷ links) [] to depth index = refl
spans_are_between (link ∷ links) (a ∷ starts) [] depth index = refl
spans_are_between (link ∷ links) (a ∷ starts) (b ∷ ends) depth index =
    ap (λ (rest : List Span). (record { len = pos link.len; tangents = between (tangent_at a b depth index) (tangent_at a b depth (index + 1)) }) ∷ rest) (spans_are_between links starts ends depth index)

-- so the boxes between the ends of a piece are those of the piece
pub pose_between : (links : List Link) (motion : Motion) (depth index : ℕ) (starts ends : List ℤ) → starts ≡ tangents_at motion depth index → ends ≡ tangents_at motion depth (index + 1) → boxes_from first_axis origin (spans_of links starts ends) ≡ pose_of links motion depth index
unfolding pose_of
pose_between links motion depth index starts ends is_start is_end =
    ap₂ (λ (s e : List ℤ). boxes_from first_axis origin (spans_of links s e)) is_start is_end
    ∙ ap (λ (all : List Span). boxes_from first_axis origin all) (spans_are_between links motion.from motion.to depth index)

pub length-spans_of : (links : List Link) (starts ends : List ℤ) → length starts ≡ length links → length ends ≡ length links → length (spans_of links starts ends) ≡ length links
length-spans_of [] starts ends h k = refl
length-spans_of (link ∷ links) [] ends h k = absurd (omega arith)
length-spans_of (link ∷ links) (a ∷ starts) [] h k = absurd (omega arith)
length-spans_of (link ∷ links) (a ∷ starts) (b ∷ ends) h k = omega (arith, length-spans_of links starts ends (omega arith) (omega arith))

pub slice_get-spans_of : (links : List Link) (starts ends : List ℤ) (k : ℕ) (link : Link) (a b : ℤ) → slice_get links k ≡ Some link → slice_get starts k ≡ Some a → slice_get ends k ≡ Some b → slice_get (spans_of links starts ends) k ≡ Some (record { len = pos link.len; tangents = between a b })
slice_get-spans_of [] starts ends k link a b is_link is_a is_b = cc
slice_get-spans_of (l ∷ links) [] ends k link a b is_link is_a is_b = cc
slice_get-spans_of (l ∷ links) (x ∷ starts) [] k link a b is_link is_a is_b = cc
slice_get-spans_of (l ∷ links) (x ∷ starts) (y ∷ ends) zero link a b is_link is_a is_b = cc
slice_get-spans_of (l ∷ links) (x ∷ starts) (y ∷ ends) (suc k) link a b is_link is_a is_b = slice_get-spans_of links starts ends k link a b is_link is_a is_b

-- the numbers between two are in order
pub between_ordered : (a b : ℤ) → IsOrdered (between a b)
between_ordered a b = trans (min_first a b) (max_first a b)

-- ---- the tangents at a moment

pub length-tangents : (from to : List ℤ) (depth i n : ℕ) → length from ≡ n → length to ≡ n → length (tangents_between from to depth i) ≡ n
length-tangents [] to depth i n h k = h
length-tangents (a ∷ starts) [] depth i n h k = absurd (omega arith)
length-tangents (a ∷ starts) (b ∷ ends) depth i zero h k = absurd (omega arith)
length-tangents (a ∷ starts) (b ∷ ends) depth i (suc n) h k = ap suc (length-tangents starts ends depth i n (omega arith) (omega arith))

slice_get-tangents : (from to : List ℤ) (depth i k : ℕ) (a b : ℤ) → slice_get from k ≡ Some a → slice_get to k ≡ Some b → slice_get (tangents_between from to depth i) k ≡ Some (tangent_at a b depth i)
slice_get-tangents [] to depth i k a b is_a is_b = cc
slice_get-tangents (x ∷ starts) [] depth i k a b is_a is_b = cc
slice_get-tangents (x ∷ starts) (y ∷ ends) depth i zero a b is_a is_b = cc
slice_get-tangents (x ∷ starts) (y ∷ ends) depth i (suc k) a b is_a is_b = slice_get-tangents starts ends depth i k a b is_a is_b

-- one tangent more
pub one_more_end : (from to : List ℤ) (depth i k : ℕ) (joints : List ℤ) (a b t : ℤ) → take k joints ≡ take k (tangents_between from to depth i) → slice_get from k ≡ Some a → slice_get to k ≡ Some b → k < length joints → t ≡ tangent_at a b depth i →
    take (k + 1) (set joints k t) ≡ take (k + 1) (tangents_between from to depth i)
one_more_end from to depth i k joints a b t so_far is_a is_b room is_tangent =
    take_more_set joints k t room
    ∙ ap₂ (λ (xs : List ℤ) (x : ℤ). xs ++ x ∷ []) so_far is_tangent
    ∙ sym (take-at (tangents_between from to depth i) k (tangent_at a b depth i) (slice_get-tangents from to depth i k a b is_a is_b))

-- ---- halves

twice_as_many : (a b m i k : ℤ) → ((a *ℤ (pos 2 *ℤ m)) +ℤ ((b -ℤ a) *ℤ (pos 2 *ℤ i))) *ℤ k ≡ ((a *ℤ m) +ℤ ((b -ℤ a) *ℤ i)) *ℤ (pos 2 *ℤ k)
twice_as_many a b m i k =
    let from = Var 0 in
    let to = Var 1 in
    let pieces = Var 2 in
    let place = Var 3 in
    let scale = Var 4 in
    let two = Lit (pos 2) in
    ring (a ∷ b ∷ m ∷ i ∷ k ∷ [])
    (Prod (Sum (Prod from (Prod two pieces)) (Prod (Sum to (Neg from)) (Prod two place))) scale)
    (Prod (Sum (Prod from pieces) (Prod (Sum to (Neg from)) place)) (Prod two scale)) refl

pub tangent_halved : (a b : ℤ) (depth i : ℕ) → depth < 20 → tangent_at a b (depth + 1) (2 * i) ≡ tangent_at a b depth i
tangent_halved a b depth i below =
    let rest : 20 - depth ≡ (20 - (depth + 1)) + 1 = omega arith in
    let pieces : pos (2 ^ (depth + 1)) ≡ pos 2 *ℤ pos (2 ^ depth) = omega (arith, ints, pow-add 2 depth 1) in
    let scale : pos (2 ^ (20 - depth)) ≡ pos 2 *ℤ pos (2 ^ (20 - (depth + 1))) = ap (λ (e : ℕ). pos (2 ^ e)) rest ∙ (omega (arith, ints, pow-add 2 (20 - (depth + 1)) 1)) in
    let place : pos (2 * i) ≡ pos 2 *ℤ pos i = omega (arith, ints) in
    rw (pieces, scale, place) (twice_as_many a b (pos (2 ^ depth)) (pos i) (pos (2 ^ (20 - (depth + 1)))))

tangents_halved : (from to : List ℤ) (depth i : ℕ) → depth < 20 → tangents_between from to (depth + 1) (2 * i) ≡ tangents_between from to depth i
tangents_halved [] to depth i below = refl
tangents_halved (a ∷ starts) [] depth i below = refl
tangents_halved (a ∷ starts) (b ∷ ends) depth i below = ap₂ (λ (t : ℤ) (rest : List ℤ). t ∷ rest) (tangent_halved a b depth i below) (tangents_halved starts ends depth i below)

pub halves_share : HalvesShareEnds
halves_share motion depth i below = tangents_halved motion.from motion.to depth i below
