-- The bytes are no JSON value, or an object, or another value.
use Rattle.std.proofs.Common.{sym, ◌∙◌, true}
use Rattle.drm_robot.proofs.ReadingLemmas.{an_object, not_read}
use Rattle.drm_robot.proofs.json.object.Goals as goal

pub returns-in-Err : goal.returns-in-Err
returns-in-Err c = not_read _ c.refusal.result c.args.bytes.now c.refusal.ensures c.in-Err.ensures.err

pub returns-then-is_object : goal.returns-then-is_object
returns-then-is_object c = an_object c.args.bytes.now _ true c.in-Ok.ensures.ok.0 c.in-Ok.ensures.ok.1 (sym c.if-is_object.true ∙ c.is_object.ensures)
