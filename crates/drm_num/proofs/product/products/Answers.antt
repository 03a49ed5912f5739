use Rattle.std.proofs.Common.{arith, to_z-of_z}
use Rattle.std.proofs.lemmas.Int.{ints}
use Rattle.drm_num.proofs.ProductLemmas.{products_small, least_at_most_greatest}
use Rattle.drm_num.proofs.product.products.Goals as goal

pub product-high_low-requires-clause-x_in : goal.product-high_low-requires-clause-x_in
product-high_low-requires-clause-x_in c = record { low = omega (arith, ints); high = omega (arith, ints) }

pub product-high_high-requires-clause-x_in : goal.product-high_high-requires-clause-x_in
product-high_high-requires-clause-x_in c = record { low = omega (arith, ints); high = omega (arith, ints) }

pub product-high_high-requires-clause-y_in : goal.product-high_high-requires-clause-y_in
product-high_high-requires-clause-y_in c = record { low = omega (arith, ints); high = omega (arith, ints) }

pub returns-clause-least : goal.returns-clause-least
returns-clause-least c = grind (arith, to_z-of_z)

pub returns-clause-greatest : goal.returns-clause-greatest
returns-clause-greatest c = grind (arith, to_z-of_z)

pub returns-clause-ordered : goal.returns-clause-ordered
returns-clause-ordered c = rw (returns-clause-least c, returns-clause-greatest c) (least_at_most_greatest c.args.a c.args.b)

pub returns-clause-least_small : goal.returns-clause-least_small
returns-clause-least_small c =
    rw (returns-clause-least c)
    (products_small c.args.a c.args.b c.lo-a_lo.ensures.ordered c.lo-b_lo.ensures.ordered c.requires.a_in c.requires.b_in).0

pub returns-clause-greatest_small : goal.returns-clause-greatest_small
returns-clause-greatest_small c =
    rw (returns-clause-greatest c)
    (products_small c.args.a c.args.b c.lo-a_lo.ensures.ordered c.lo-b_lo.ensures.ordered c.requires.a_in c.requires.b_in).1
