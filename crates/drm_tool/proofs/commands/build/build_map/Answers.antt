-- The map is that of the robot, and its file stands under its name.
use Rattle.std.proofs.Common.{inr, rules}
use Rattle.drm_tool.specs.Build.{SweepsCallFor, BuildIsRefused}
use Rattle.drm_tool.proofs.OutcomeLemmas.{others_after}
use Rattle.drm_tool.proofs.OutcomeLemmas.{stops_map}
use Rattle.drm_tool.proofs.commands.build.build_map.Goals as goal

pub returns-in_err-bytes-clause-stop : goal.returns-in_err-bytes-clause-stop
returns-in_err-bytes-clause-stop g c =
    let stops = stops_map (SweepsCallFor c.in_ok-robot.robot) (BuildIsRefused (g.H.Shelf.held c.args.shelf.now) (g.H.Shelf.held c.load_robot.new.shelf) c.args.robot.now) c.in_err-bytes.field-0.0
    (λ refusal is. (c.in_ok-robot.ensures.kept, inr (c.in_ok-robot.robot, c.in_ok-robot.ensures.robot, is))) c.in_err-bytes.ensures.stop in
    search rules

pub returns-clause-done : goal.returns-clause-done
returns-clause-done g c = record {
  robot = c.in_ok-robot.robot;
  named = c.in_ok-robot.ensures.robot;
  bytes = _;
  file = c.in_ok-bytes.ensures.file;
  saved = rw c.deref.ensures.value at c.in_ok-save.ensures.saved;
  others = others_after _ _ _ _ c.in_ok-robot.ensures.kept c.in_ok-save.ensures.others;
}
