-- One draw, joint by joint.
use Rattle.std.proofs.Common.{◌≡◌, ℕ, ◌+◌, ◌<◌, ◌≤◌, ℤ, IsTrue, List, [], ◌∷◌, ◌++◌, length, take, set, Some, refl, ap, sym, ◌∙◌, arith}
use Rattle.std.specs.List.{All, zip, slice_get}
use Rattle.std.proofs.lemmas.List.{take_more_set, length-take-le, length-set, map-append}
use Rattle.std.proofs.lemmas.List.Elements.{All-nil, All-push}
use Rattle.std.proofs.lemmas.Option.{slice_get_within}
use Rattle.rand_core.specs.Steps.{first_words}
use Rattle.drm_num.proofs.Lists.{zip-push}
use Rattle.drm_road.proofs.ListLemmas.{taken_more}
use Rattle.drm_arm.specs.declared.arm.Link.{Link}
use Rattle.drm_arm.specs.Config.{allows}
use Rattle.drm_road.specs.Words.{after_words}
use Rattle.drm_road.specs.Draws.{coordinate_of, configured}
use Rattle.drm_road.proofs.WordLemmas.{length-first_words, words_more, after_more}

configured_push : (links : List Link) (words : List ℕ) (link : Link) (word : ℕ) → length words ≡ length links → configured (links ++ link ∷ []) (words ++ word ∷ []) ≡ configured links words ++ coordinate_of link word ∷ []
configured_push links words link word same =
    rw (zip-push links words link word same) (map-append (λ (pair : Link × ℕ). coordinate_of pair.0 pair.1) (zip links words) ((link, word) ∷ []))

-- the coordinates of the first joints stand in their places
pub record IsDrawing {S : Type 0} (step : S → ℕ × S) (links : List Link) (before : S) (values : List ℤ) (j : ℕ) (now : S) : Type 0 where
  pub taken : take j values ≡ configured (take j links) (first_words step j before)
  pub within : All (λ (pair : Link × ℤ). IsTrue (allows pair.0 pair.1)) (zip (take j links) (take j values))
  pub state : now ≡ after_words step j before
  pub sized : length values ≡ 6

pub drawing_none : {S : Type 0} (step : S → ℕ × S) (links : List Link) (before : S) (values : List ℤ) → length values ≡ 6 → IsDrawing step links before values 0 before
unfolding first_words after_words
drawing_none step links before values sized = record { taken = refl; within = All-nil (λ (pair : Link × ℤ). IsTrue (allows pair.0 pair.1)); state = refl; sized = sized }

pub drawing_more : {S : Type 0} (step : S → ℕ × S) (links : List Link) (before : S) (values : List ℤ) (j : ℕ) (now : S) (link : Link) (word : ℕ) (next : S) (value : ℤ) → IsDrawing step links before values j now → slice_get links j ≡ Some link → length links ≤ 6 → (word, next) ≡ step now → value ≡ coordinate_of link word → IsTrue (allows link value) → IsDrawing step links before (set values j value) (j + 1) next
drawing_more step links before values j now link word next value h at few stepped is inside =
    let in_list : j < length links = slice_get_within links j link at in
    let sized = h.sized in
    let below : j < length values = omega arith in
    let front = taken_more links j link at in
    let put = take_more_set values j value below in
    let in_links : j < length links = slice_get_within links j link at in
    let same_length : length (first_words step j before) ≡ length (take j links) = length-first_words step j before ∙ sym (length-take-le j links (omega arith)) in
    let same_length_2 : length (take j values) ≡ length (take j links) = length-take-le j values (omega arith) ∙ sym (length-take-le j links (omega arith)) in
    let word_is : word ≡ (step (after_words step j before)).0 = ap (λ (p : ℕ × _). p.0) stepped ∙ ap (λ s. (step s).0) h.state in
    let next_is : next ≡ (step (after_words step j before)).1 = ap (λ (p : ℕ × _). p.1) stepped ∙ ap (λ s. (step s).1) h.state in
    record {
      taken = rw (put, front, words_more step j before, h.taken, configured_push (take j links) (first_words step j before) link (step (after_words step j before)).0 same_length, is, word_is) refl;
      within = rw (put, front, zip-push (take j links) (take j values) link value same_length_2) (All-push (λ (pair : Link × ℤ). IsTrue (allows pair.0 pair.1)) (zip (take j links) (take j values)) (link, value) h.within inside);
      state = next_is ∙ sym (after_more step j before);
      sized = length-set values j value ∙ h.sized;
    }
