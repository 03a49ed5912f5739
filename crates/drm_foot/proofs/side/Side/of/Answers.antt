-- The side starts at the one corner and leads to the other.
use Rattle.std.proofs.Common.{FitsSigned, w32, w64, ◌∙◌, ap₂, to_z-of_z, subst, sym, ◌+◌, arith}
use Rattle.std.proofs.lemmas.Nat.{mod_below}
use Rattle.std.specs.Prelude.{ℤ, ◌-ℤ◌}
use Rattle.drm_shape.specs.Corners.{corner_count, corner_at, next_of}
use Rattle.drm_foot.specs.Sides.{IsSmallSide}
use Rattle.drm_foot.proofs.SideLemmas.{side_made, side_small, corner_small, difference_fits}
use Rattle.drm_foot.proofs.side.Side.of.Goals as goal

pub returns-clause-value : goal.returns-clause-value
returns-clause-value c =
    let ring = c.args.ring.now in
    let i = c.args.i in
    let few = c.corners.ensures.form.least in
    let here = corner_small ring i c.requires.range c.requires.side in
    let there = corner_small ring (next_of ring i) c.requires.range (mod_below (i + 1) (corner_count ring) (omega arith)) in
    let x_fits : FitsSigned w32 c.x-x.result = record { sfits = c.x-x.type_inv } in
    let y_fits : FitsSigned w32 c.y-y.result = record { sfits = c.y-y.type_inv } in
    let next_x_fits : FitsSigned w32 c.x.result = record { sfits = c.x.type_inv } in
    let next_y_fits : FitsSigned w32 c.y.result = record { sfits = c.y.type_inv } in
    let one : FitsSigned w64 c.from.result = record { sfits = c.from.type_inv } in
    let two : FitsSigned w64 c.from-2.result = record { sfits = c.from-2.type_inv } in
    let three : FitsSigned w64 c.from-3.result = record { sfits = c.from-3.type_inv } in
    let four : FitsSigned w64 c.from-4.result = record { sfits = c.from-4.type_inv } in
    let five : FitsSigned w64 c.from-5.result = record { sfits = c.from-5.type_inv } in
    let six : FitsSigned w64 c.from-6.result = record { sfits = c.from-6.type_inv } in
    let next_is = rw c.corners.ensures.count at c.corner_after-next.ensures in
    let is_x = c.from.ensures ∙ to_z-of_z x_fits ∙ c.x-x.ensures in
    let is_y = c.from-2.ensures ∙ to_z-of_z y_fits ∙ c.y-y.ensures in
    let next_x = c.from-3.ensures ∙ to_z-of_z next_x_fits ∙ rw next_is at c.x.ensures in
    let this_x = c.from-4.ensures ∙ to_z-of_z x_fits ∙ c.x-x.ensures in
    let next_y = c.from-5.ensures ∙ to_z-of_z next_y_fits ∙ rw next_is at c.y.ensures in
    let this_y = c.from-6.ensures ∙ to_z-of_z y_fits ∙ c.y-y.ensures in
    let is_dx = ap₂ (λ (p : ℤ) (q : ℤ). p -ℤ q) next_x this_x in
    let is_dy = ap₂ (λ (p : ℤ) (q : ℤ). p -ℤ q) next_y this_y in
    let dx_fits : FitsSigned w64 (c.from-3.result -ℤ c.from-4.result) = rw (next_x, this_x) (difference_fits (corner_at ring i).x (corner_at ring (next_of ring i)).x here.0 there.0) in
    let dy_fits : FitsSigned w64 (c.from-5.result -ℤ c.from-6.result) = rw (next_y, this_y) (difference_fits (corner_at ring i).y (corner_at ring (next_of ring i)).y here.1 there.1) in
    rw (to_z-of_z one, to_z-of_z two, to_z-of_z three, to_z-of_z four, to_z-of_z five, to_z-of_z six, to_z-of_z dx_fits, to_z-of_z dy_fits)
    (side_made (corner_at ring i) (corner_at ring (next_of ring i)) c.from.result c.from-2.result (c.from-3.result -ℤ c.from-4.result) (c.from-5.result -ℤ c.from-6.result) is_x is_y is_dx is_dy)

pub returns-clause-small : goal.returns-clause-small
returns-clause-small c =
    let ring = c.args.ring.now in
    let i = c.args.i in
    let few = c.corners.ensures.form.least in
    let here = corner_small ring i c.requires.range c.requires.side in
    let there = corner_small ring (next_of ring i) c.requires.range (mod_below (i + 1) (corner_count ring) (omega arith)) in
    subst IsSmallSide (sym (returns-clause-value c)) (side_small (corner_at ring i) (corner_at ring (next_of ring i)) here.0 here.1 there.0 there.1)
