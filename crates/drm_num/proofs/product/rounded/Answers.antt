use Rattle.std.proofs.Common.{arith, to_z-of_z}
use Rattle.drm_num.specs.Interval.{unit}
use Rattle.drm_num.proofs.Rounding.{unit_positive, IsFloor-floor, IsCeiling-ceiling}
use Rattle.drm_num.proofs.product.rounded.Goals as goal

pub returns-clause-lo : goal.returns-clause-lo
returns-clause-lo c = grind (arith, to_z-of_z)

pub returns-clause-hi : goal.returns-clause-hi
returns-clause-hi c = grind (arith, to_z-of_z)

pub returns-clause-greatest_below : goal.returns-clause-greatest_below
returns-clause-greatest_below c = rw (returns-clause-lo c) (IsFloor-floor c.args.least unit unit_positive)

pub returns-clause-least_above : goal.returns-clause-least_above
returns-clause-least_above c = rw (returns-clause-hi c) (IsCeiling-ceiling c.args.greatest unit unit_positive)
