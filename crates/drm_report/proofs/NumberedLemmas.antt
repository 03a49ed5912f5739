-- What a front ends with stands in the whole history, at the front's length.
use Rattle.std.proofs.Common.{◌≡◌, ℕ, ◌+◌, ◌<◌, ◌≤◌, List, [], ◌∷◌, ◌++◌, length, take, drop, refl, ap, sym, ◌∙◌, arith, Option, Some, append_assoc, length-append, slice_get}
use Rattle.std.proofs.lemmas.List.{take_more, take-append-drop, length-take-le}
use Rattle.std.proofs.lemmas.Option.{slice_get_within, slice_get-get_or, get_or_from_slice_get}
use Rattle.drm_shape.specs.declared.Shape.{Shape}
use Rattle.drm_talk.specs.Limits.{full}
use Rattle.drm_talk.specs.History.{IsLegal}
use Rattle.drm_talk.specs.Front.{EndsWithEdit}
use Rattle.drm_talk.specs.declared.Entry.{Entry}
use Rattle.drm_report.specs.Numbered.{IsEditAt}
use Rattle.drm_report.specs.Laws.{FullIsTheGreatestLength, FrontsEndWithTheirEntry}

-- a legal history is no longer than the limit
legal_fits : (history : List Entry) → IsLegal history → length history ≤ full
legal_fits [] legal = omega arith
legal_fits (first ∷ history) legal =
    let last : length history < full = (legal (length history) _ (slice_get-get_or (first ∷ history) (length history) first (omega arith))).room in
    omega arith

-- the front has the limit's length, and the history is no longer
pub full_is_greatest : FullIsTheGreatestLength
full_is_greatest map history caller act n legal right =
    let within : n ≤ length history = right.told.0 in
    let at : length (take n history) ≡ full = right.told.1.0 in
    let fits : length history ≤ full = legal_fits history legal in
    let long : length (take n history) ≡ n = length-take-le n history within in
    (omega arith, omega arith)

-- the element behind a front
behind : {X : Type 0} (front rest : List X) (x : X) → slice_get (front ++ x ∷ rest) (length front) ≡ Some x
behind [] rest x = refl
behind (y ∷ front) rest x = behind front rest x

-- the last entry of a front is the entry of the front's length
last_is_at : (history : List Entry) (n caller slot : ℕ) (content : Option Shape) → n ≤ length history → EndsWithEdit (take n history) caller slot content → IsEditAt history n caller slot content
last_is_at history n caller slot content within (before, entry, is, mine, same_slot, same_content) =
    let long : n ≡ length before + 1 = sym (length-take-le n history within) ∙ ap length is ∙ length-append before (entry ∷ []) in
    let whole : history ≡ before ++ entry ∷ drop n history =
    sym (take-append-drop n history) ∙ ap (λ (front : List Entry). front ++ drop n history) is ∙ append_assoc before (entry ∷ []) (drop n history) in
    let there : slice_get history (length before) ≡ Some entry =
    ap (λ (h : List Entry). slice_get h (length before)) whole ∙ behind before (drop n history) entry in
    (entry, (length before, long, there), mine, same_slot, same_content)

-- and the other way round
at_is_last : (history : List Entry) (n caller slot : ℕ) (content : Option Shape) → IsEditAt history n caller slot content → EndsWithEdit (take n history) caller slot content
at_is_last history n caller slot content (entry, (k, is, there), mine, same_slot, same_content) =
    let front : take (k + 1) history ≡ take k history ++ entry ∷ [] =
    take_more history k entry (slice_get_within history k entry there)
    ∙ ap (λ (e : Entry). take k history ++ e ∷ []) (get_or_from_slice_get history k entry entry there) in
    (take k history, entry, ap (λ (m : ℕ). take m history) is ∙ front, mine, same_slot, same_content)

pub fronts_end : FrontsEndWithTheirEntry
fronts_end history n caller slot content within =
    (last_is_at history n caller slot content within, at_is_last history n caller slot content)
