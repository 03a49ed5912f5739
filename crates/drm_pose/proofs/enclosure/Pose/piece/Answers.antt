-- A run of one piece is the piece.
use Rattle.std.proofs.Common.{◌+◌, ◌*◌, ◌^◌, pos, subst, sym, ◌∙◌}
use Rattle.drm_pose.specs.declared.boxes.Plate.{Plate}
use Rattle.drm_pose.specs.Chain.{axis_of}
use Rattle.drm_pose.specs.Enclosure.{LiesIn}
use Rattle.drm_pose.specs.Widths.{IsNarrow}
use Rattle.drm_pose.proofs.PieceLemmas.{part-holds, run_of_one}
use Rattle.drm_pose.proofs.LeafLemmas.{leaf-piece}
use Rattle.drm_pose.proofs.SpanLemmas.{some_at}
use Rattle.drm_pose.proofs.enclosure.Pose.piece.Goals as goal

pub returns-clause-value : goal.returns-clause-value
returns-clause-value c box is_box = (rw c.of.ensures at (c.pieces.ensures.value box is_box)) ∙ run_of_one box c.args.p c.args.n

pub returns-clause-contains : goal.returns-clause-contains
returns-clause-contains c d joints e f above encloses part =
    let (box, is_box) = some_at c.args.self.now c.args.link c.requires.link in
    subst (λ (plate : Plate). LiesIn (axis_of d joints c.args.link e f) plate) (sym (returns-clause-value c box is_box))
    (part-holds c.args.self.now d joints c.args.link box c.args.p c.args.n e f above c.requires.some encloses is_box part)

pub returns-clause-narrow : goal.returns-clause-narrow
returns-clause-narrow c box len side is_box long leaf enough =
    let ordered = c.pieces.ensures.ordered box is_box in
    subst (IsNarrow (pos (side * 2 ^ 27 + 2))) (sym (returns-clause-value c box is_box))
    (leaf-piece c.args.self.now c.args.link box c.args.p c.args.n len side is_box (c.pieces.ensures.limits box is_box) ordered.0 ordered.1 c.requires.piece long leaf enough)
