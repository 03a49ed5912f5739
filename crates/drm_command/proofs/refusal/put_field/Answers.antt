-- The key stands behind the text.
use Rattle.std.proofs.Common.{ℕ, List, ◌++◌, ap, ◌∙◌, append_assoc, codes}
use Rattle.drm_command.proofs.refusal.put_field.Goals as goal

pub returns : goal.returns
returns c =
    c.in_ok-push_str-2.ensures.bytes
    ∙ (ap (λ (b : List ℕ). b ++ c.args.key.now) c.in_ok-push_str.ensures.bytes ∙ append_assoc _ (codes "robot field ") _)
