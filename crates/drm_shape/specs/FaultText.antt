-- What a fault of a shape prints.
use Rattle.std.specs.Prelude.{ℕ, List, ◌++◌, neg_ℤ, codes, decimal}
use Rattle.std.specs.Fmt.{signed_decimal}
use Rattle.drm_shape.specs.Limits.{farthest, greatest_radius}
use Rattle.drm_shape.specs.declared.ShapeFault.{ShapeFault}
use Rattle.drm_shape.specs.declared.ShapeFault.TheVariants.{Range, Order, Radius, Turn}

-- the rule that the shape breaks, with the limit, or the side of the ring that breaks it
abbrev pub shape_fault_text : ShapeFault → List ℕ
shape_fault_text Range =
    codes "a coordinate is not within "
    ++ (signed_decimal (neg_ℤ farthest) ++ (codes " to " ++ signed_decimal farthest))
shape_fault_text Order = codes "the left side of the box is right of its right side, or its bottom is above its top"
shape_fault_text Radius = codes "the radius of the disc is over " ++ decimal greatest_radius
shape_fault_text (Turn i) =
    codes "side " ++ (decimal i ++ codes " of the ring has another corner that is not strictly on its left")
