-- A shape breaks no rule exactly where it is valid.
use Rattle.std.proofs.Common.{◌≡◌, ◌↔◌, ℕ, ◌≤◌, ℤ, ◌≤ℤ◌, Bool, true, false, ◌&&◌, nat_le, int_le, List, [], ◌∷◌, Option, None, refl, arith}
use Rattle.std.specs.List.{range_with_len}
use Rattle.std.proofs.lemmas.Bool.Decides.{nat_tests}
use Rattle.drm_num.specs.FirstBroken.{unless}
use Rattle.drm_num.proofs.RuleLemmas.{kept, unbroken, first_kept, none_broken}
use Rattle.drm_shape.specs.Limits.{greatest_radius}
use Rattle.drm_shape.specs.Corners.{corner_count}
use Rattle.drm_shape.specs.Validity.{IsCoordinate, is_coordinate, IsInRange, HasOrderedCorners, HasRadius, HasOthersOnLeft, IsConvex, HasCorners, IsValid, is_in_range, is_ordered, has_radius, turns_left, turn_fault, shape_fault}
use Rattle.drm_shape.specs.declared.Shape.{Shape}
use Rattle.drm_shape.specs.declared.Shape.TheVariants.{Rect, Disc, Poly}
use Rattle.drm_shape.specs.declared.ShapeFault.{ShapeFault}
use Rattle.drm_shape.specs.declared.ShapeFault.TheVariants.{Range, Order, Radius, Turn}
use Rattle.drm_shape.proofs.FirstLemmas.{each_number, no_number}
use Rattle.drm_shape.proofs.TestLemmas.{le_means, le_is, coordinate, is_one, all_in, in_all, others_on_left, is_left_turn}

-- each rule by itself
four : (a b c d : Bool) → (a && b && c && d) ≡ true → (a ≡ true) × (b ≡ true) × (c ≡ true) × (d ≡ true)
four true true true true h = (refl, refl, refl, refl)
four false b c d h = cc
four true false c d h = cc
four true true false d h = cc
four true true true false h = cc

two : (a b : Bool) → (a && b) ≡ true → (a ≡ true) × (b ≡ true)
two true b h = (refl, h)
two false b h = cc

pub in_range : (shape : Shape) → is_in_range shape ≡ true → IsInRange shape
in_range (Rect x0 y0 x1 y1) h =
    let each = four (is_coordinate x0) (is_coordinate y0) (is_coordinate x1) (is_coordinate y1) h in
    (coordinate x0 each.0, coordinate y0 each.1, coordinate x1 each.2, coordinate y1 each.3)
in_range (Disc x y r) h = let each = two (is_coordinate x) (is_coordinate y) h in (coordinate x each.0, coordinate y each.1)
in_range (Poly ring) h = all_in ring h

has_range : (shape : Shape) → IsInRange shape → is_in_range shape ≡ true
has_range (Rect x0 y0 x1 y1) h = rw (is_one x0 h.0, is_one y0 h.1, is_one x1 h.2, is_one y1 h.3) refl
has_range (Disc x y r) h = rw (is_one x h.0, is_one y h.1) refl
has_range (Poly ring) h = in_all ring h

sides : (a b c d : ℤ) → (int_le a b && int_le c d) ≡ true → (a ≤ℤ b) × (c ≤ℤ d)
sides a b c d h = let each = two (int_le a b) (int_le c d) h in (le_means a b each.0, le_means c d each.1)

are_sides : (a b c d : ℤ) → (a ≤ℤ b) × (c ≤ℤ d) → (int_le a b && int_le c d) ≡ true
are_sides a b c d h = rw (le_is a b h.0, le_is c d h.1) refl

ordered : (shape : Shape) → is_ordered shape ≡ true → HasOrderedCorners shape
ordered (Rect x0 y0 x1 y1) h = sides x0 x1 y0 y1 h
ordered (Disc x y r) h = tt
ordered (Poly ring) h = tt

has_order : (shape : Shape) → HasOrderedCorners shape → is_ordered shape ≡ true
has_order (Rect x0 y0 x1 y1) h = are_sides x0 x1 y0 y1 h
has_order (Disc x y r) h = refl
has_order (Poly ring) h = refl

at_most : (r n : ℕ) → nat_le r n ≡ true → r ≤ n
at_most r n h = grind (arith, nat_tests)

is_at_most : (r n : ℕ) → r ≤ n → nat_le r n ≡ true
is_at_most r n h = grind (arith, nat_tests)

radius : (shape : Shape) → has_radius shape ≡ true → HasRadius shape
radius (Rect x0 y0 x1 y1) h = tt
radius (Disc x y r) h = at_most r greatest_radius h
radius (Poly ring) h = tt

is_radius : (shape : Shape) → HasRadius shape → has_radius shape ≡ true
is_radius (Rect x0 y0 x1 y1) h = refl
is_radius (Disc x y r) h = is_at_most r greatest_radius h
is_radius (Poly ring) h = refl

convex : (shape : Shape) → turn_fault shape ≡ None → IsConvex shape
convex (Rect x0 y0 x1 y1) h = tt
convex (Disc x y r) h = tt
convex (Poly ring) h = λ i below. others_on_left ring i (each_number (λ k. Turn k) (turns_left ring) (corner_count ring) h i below)

is_convex : (shape : Shape) → IsConvex shape → turn_fault shape ≡ None
is_convex (Rect x0 y0 x1 y1) h = refl
is_convex (Disc x y r) h = refl
is_convex (Poly ring) h = no_number (λ k. Turn k) (turns_left ring) (corner_count ring) (λ i below. is_left_turn ring i (h i below))

-- the rules, each with those after it
abbrev turn_rules : Shape → List (Option ShapeFault)
turn_rules shape = turn_fault shape ∷ []

abbrev radius_rules : Shape → List (Option ShapeFault)
radius_rules shape = unless (has_radius shape) Radius ∷ turn_rules shape

abbrev order_rules : Shape → List (Option ShapeFault)
order_rules shape = unless (is_ordered shape) Order ∷ radius_rules shape

-- a shape that breaks no rule is valid
is_valid : (shape : Shape) → HasCorners shape → shape_fault shape ≡ None → IsValid shape
is_valid shape corners none =
    let range = first_kept (unless (is_in_range shape) Range) (order_rules shape) none in
    let order = first_kept (unless (is_ordered shape) Order) (radius_rules shape) range.1 in
    let round = first_kept (unless (has_radius shape) Radius) (turn_rules shape) order.1 in
    let turn = first_kept (turn_fault shape) [] round.1 in
    record {
      in_range = in_range shape (kept (is_in_range shape) Range range.0);
      ordered = ordered shape (kept (is_ordered shape) Order order.0);
      radius = radius shape (kept (has_radius shape) Radius round.0);
      convex = convex shape turn.0;
      corners = corners;
    }

-- a valid shape breaks no rule
faultless : (shape : Shape) → IsValid shape → shape_fault shape ≡ None
faultless shape h =
    none_broken (unless (is_in_range shape) Range) (order_rules shape) (unbroken (is_in_range shape) Range (has_range shape h.in_range))
    (none_broken (unless (is_ordered shape) Order) (radius_rules shape) (unbroken (is_ordered shape) Order (has_order shape h.ordered))
    (none_broken (unless (has_radius shape) Radius) (turn_rules shape) (unbroken (has_radius shape) Radius (is_radius shape h.radius))
    (none_broken (turn_fault shape) [] (is_convex shape h.convex) refl)))

-- both ways
pub valid_or_not : (shape : Shape) → HasCorners shape → (shape_fault shape ≡ None) ↔ IsValid shape
valid_or_not shape corners = (is_valid shape corners, faultless shape)
