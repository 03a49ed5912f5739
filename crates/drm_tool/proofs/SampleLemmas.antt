-- Words that are a command over the map that is built in are no other.
use Rattle.std.proofs.Common.{◌≡◌, ℕ, List, [], length, get_or, sym, ◌∙◌, ap, arith, inl, inr}
use Rattle.drm_command.specs.Command.{Command, Build, Check, Replay, IsCommand, words_of, sample_name}
use Rattle.drm_command.specs.declared.command.Form.{Form}
use Rattle.drm_tool.specs.Headline.{IsOverSample}

-- two commands with the same words
same_words : (words : List (List ℕ)) (one other : Command) → IsCommand words one → IsCommand words other → words_of one ≡ words_of other
same_words words one other is also = sym is.spelled ∙ also.spelled

-- a build
pub build_is_not : (words : List (List ℕ)) (robot map : List ℕ) → IsCommand words (Build robot map) → ¬ IsOverSample words
build_is_not words robot map is (inl check) = omega (arith, ap length (same_words words (Build robot map) (Check sample_name) is check))
build_is_not words robot map is (inr (form, replay)) =
    omega (arith, ap (λ (ws : List (List ℕ)). length (get_or ws 0 [])) (same_words words (Build robot map) (Replay sample_name form) is replay))

-- a check
pub check_is_of : (words : List (List ℕ)) (map : List ℕ) → IsCommand words (Check map) → IsOverSample words → map ≡ sample_name
check_is_of words map is (inl check) = ap (λ (ws : List (List ℕ)). get_or ws 1 []) (same_words words (Check map) (Check sample_name) is check)
check_is_of words map is (inr (form, replay)) = absurd (omega (arith, ap length (same_words words (Check map) (Replay sample_name form) is replay)))

-- a replay
pub replay_is_over : (words : List (List ℕ)) (map : List ℕ) (form : Form) → IsCommand words (Replay map form) → IsOverSample words → map ≡ sample_name
replay_is_over words map form is (inl check) = absurd (omega (arith, ap length (same_words words (Replay map form) (Check sample_name) is check)))
replay_is_over words map form is (inr (other, replay)) = ap (λ (ws : List (List ℕ)). get_or ws 1 []) (same_words words (Replay map form) (Replay sample_name other) is replay)
