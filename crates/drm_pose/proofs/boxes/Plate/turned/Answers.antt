use Rattle.std.proofs.Common.{rules, subst, sym}
use Rattle.drm_num.specs.Interval.{IsOrdered}
use Rattle.drm_half.specs.Turned.{between}
use Rattle.drm_pose.specs.Enclosure.{HoldsDirection}
use Rattle.drm_pose.proofs.EndLemmas.{between_ordered}
use Rattle.drm_pose.proofs.ContainmentLemmas.{overlap_x_of, overlap_y_of, HoldsDirection-turned}
use Rattle.drm_pose.proofs.boxes.Plate.turned.Goals as goal

pub cut_unit-requires : goal.cut_unit-requires
cut_unit-requires c =
    let ordered : IsOrdered (between c.args.start.now c.args.end.now) = between_ordered c.args.start.now c.args.end.now in
    overlap_x_of c.args.self.now (between c.args.start.now c.args.end.now) _ _ _ c.turn_between-by.ensures.cosine_value c.turn_between-by.ensures.sine_value c.mul_sub2.ensures.value ordered c.requires.some

pub cut_unit-requires-2 : goal.cut_unit-requires-2
cut_unit-requires-2 c =
    let ordered : IsOrdered (between c.args.start.now c.args.end.now) = between_ordered c.args.start.now c.args.end.now in
    overlap_y_of c.args.self.now (between c.args.start.now c.args.end.now) _ _ _ c.turn_between-by.ensures.cosine_value c.turn_between-by.ensures.sine_value c.mul_add2.ensures.value ordered c.requires.some

pub returns-clause-value : goal.returns-clause-value
returns-clause-value c = search rules

pub returns-clause-some : goal.returns-clause-some
returns-clause-some c =
    let ordered : IsOrdered (between c.args.start.now c.args.end.now) = between_ordered c.args.start.now c.args.end.now in
    subst HoldsDirection (sym (returns-clause-value c)) (HoldsDirection-turned c.args.self.now (between c.args.start.now c.args.end.now) ordered c.requires.some)
