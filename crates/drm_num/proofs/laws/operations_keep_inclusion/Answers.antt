use Rattle.drm_num.proofs.InclusionLemmas.{included_sum, included_difference, included_multiple, included_common_part, included_hull, included_product_sum, included_product_difference, widths_rise, gaps_fall}
use Rattle.drm_num.proofs.laws.operations_keep_inclusion.Goals as goal

pub returns-clause-sums : goal.returns-clause-sums
returns-clause-sums c = included_sum

pub returns-clause-differences : goal.returns-clause-differences
returns-clause-differences c = included_difference

pub returns-clause-multiples : goal.returns-clause-multiples
returns-clause-multiples c = included_multiple

pub returns-clause-common_parts : goal.returns-clause-common_parts
returns-clause-common_parts c = included_common_part

pub returns-clause-hulls : goal.returns-clause-hulls
returns-clause-hulls c = included_hull

pub returns-clause-product_sums : goal.returns-clause-product_sums
returns-clause-product_sums c = included_product_sum

pub returns-clause-product_differences : goal.returns-clause-product_differences
returns-clause-product_differences c = included_product_difference

pub returns-clause-widths : goal.returns-clause-widths
returns-clause-widths c = widths_rise

pub returns-clause-gaps : goal.returns-clause-gaps
returns-clause-gaps c = gaps_fall
