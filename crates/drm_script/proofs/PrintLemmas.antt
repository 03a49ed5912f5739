-- Lines that are printed word by word.
use Rattle.std.proofs.Common.{◌≡◌, ℕ, ◌+◌, ◌*◌, ◌/◌, ◌<◌, List, [], ◌∷◌, ◌++◌, flat_map, refl, sym, ap, ap₂, ◌∙◌, append_assoc, take, length, get_or, arith}
use Rattle.std.specs.List.{join_with_byte}
use Rattle.std.specs.Fmt.{signed_decimal}
use Rattle.std.proofs.lemmas.List.{append-nil, take_more}
use Rattle.std.proofs.lemmas.List.Concat.{flat_map-append}
use Rattle.drm_script.specs.Words.{line_of, spaced}
use Rattle.drm_script.specs.Log.{signed_words}
use lib.IntN.{ℤ, pos}

-- words behind words, with a blank before each
pub spaced_append : (vs ws : List (List ℕ)) → spaced (vs ++ ws) ≡ spaced vs ++ spaced ws
spaced_append vs ws = flat_map-append (λ (w : List ℕ). 32 ∷ w) vs ws

-- a line is its first word, the others with a blank before each, and its line feed
joined_spaced : (w : List ℕ) (ws : List (List ℕ)) → join_with_byte 32 (w ∷ ws) ≡ w ++ spaced ws
joined_spaced w [] = sym (append-nil w)
joined_spaced w (v ∷ ws) = ap (λ (t : List ℕ). w ++ 32 ∷ t) (joined_spaced v ws)

pub line_spaced : (w : List ℕ) (ws : List (List ℕ)) → line_of (w ∷ ws) ≡ w ++ (spaced ws ++ 10 ∷ [])
line_spaced w ws = ap (λ (t : List ℕ). t ++ 10 ∷ []) (joined_spaced w ws) ∙ append_assoc w (spaced ws) (10 ∷ [])

-- a line whose front was written with its first word, then its other words, and its line feed
pub line_printed : (old front t1 t2 t3 w : List ℕ) (ws : List (List ℕ)) → t1 ≡ old ++ (front ++ w) → t2 ≡ t1 ++ spaced ws → t3 ≡ t2 ++ 10 ∷ [] → t3 ≡ old ++ (front ++ line_of (w ∷ ws))
line_printed old front t1 t2 t3 w ws e1 e2 e3 =
    let end = spaced ws ++ 10 ∷ [] in
    e3 ∙ ap (λ (t : List ℕ). t ++ 10 ∷ []) (e2 ∙ ap (λ (t : List ℕ). t ++ spaced ws) e1)
    ∙ append_assoc (old ++ (front ++ w)) (spaced ws) (10 ∷ [])
    ∙ append_assoc old (front ++ w) end
    ∙ ap (λ (t : List ℕ). old ++ t) (append_assoc front w end ∙ ap (λ (t : List ℕ). front ++ t) (sym (line_spaced w ws)))

-- a line whose first two words were written, then two lists of words, and its line feed
pub lists_printed : (old t1 t2 t3 t4 w tag : List ℕ) (vs ws : List (List ℕ)) → t1 ≡ old ++ (w ++ 32 ∷ tag) → t2 ≡ t1 ++ spaced vs → t3 ≡ t2 ++ spaced ws → t4 ≡ t3 ++ 10 ∷ [] → t4 ≡ old ++ line_of (w ∷ tag ∷ (vs ++ ws))
lists_printed old t1 t2 t3 t4 w tag vs ws e1 e2 e3 e4 =
    let whole : t3 ≡ (old ++ w) ++ spaced (tag ∷ (vs ++ ws)) =
    e3 ∙ ap (λ (t : List ℕ). t ++ spaced ws) (e2 ∙ ap (λ (t : List ℕ). t ++ spaced vs) e1)
    ∙ append_assoc (old ++ (w ++ 32 ∷ tag)) (spaced vs) (spaced ws)
    ∙ ap (λ (t : List ℕ). (old ++ (w ++ 32 ∷ tag)) ++ t) (sym (spaced_append vs ws))
    ∙ ap (λ (t : List ℕ). t ++ spaced (vs ++ ws)) (sym (append_assoc old w (32 ∷ tag)))
    ∙ append_assoc (old ++ w) (32 ∷ tag) (spaced (vs ++ ws)) in
    line_printed old [] (old ++ w) t3 t4 w (tag ∷ (vs ++ ws)) refl whole e4

-- a line whose front was written with its first two words, or its first three
pub two_printed : (old front t1 t2 t3 w u : List ℕ) (ws : List (List ℕ)) → t1 ≡ old ++ (front ++ (w ++ 32 ∷ u)) → t2 ≡ t1 ++ spaced ws → t3 ≡ t2 ++ 10 ∷ [] → t3 ≡ old ++ (front ++ line_of (w ∷ u ∷ ws))
two_printed old front t1 t2 t3 w u ws e1 e2 e3 =
    let whole : t2 ≡ (old ++ (front ++ w)) ++ spaced (u ∷ ws) =
    e2 ∙ ap (λ (t : List ℕ). t ++ spaced ws) (e1 ∙ ap (λ (t : List ℕ). old ++ t) (sym (append_assoc front w (32 ∷ u))) ∙ sym (append_assoc old (front ++ w) (32 ∷ u)))
    ∙ append_assoc (old ++ (front ++ w)) (32 ∷ u) (spaced ws) in
    line_printed old front (old ++ (front ++ w)) t2 t3 w (u ∷ ws) refl whole e3

pub three_printed : (old t1 t2 t3 w tag u : List ℕ) (ws : List (List ℕ)) → t1 ≡ old ++ (w ++ 32 ∷ (tag ++ 32 ∷ u)) → t2 ≡ t1 ++ spaced ws → t3 ≡ t2 ++ 10 ∷ [] → t3 ≡ old ++ line_of (w ∷ tag ∷ u ∷ ws)
three_printed old t1 t2 t3 w tag u ws e1 e2 e3 =
    let words = 32 ∷ (tag ++ 32 ∷ u) in
    let whole : t2 ≡ (old ++ w) ++ spaced (tag ∷ u ∷ ws) =
    e2 ∙ ap (λ (t : List ℕ). t ++ spaced ws) (e1 ∙ sym (append_assoc old w words))
    ∙ append_assoc (old ++ w) words (spaced ws)
    ∙ ap (λ (t : List ℕ). (old ++ w) ++ 32 ∷ t) (append_assoc tag (32 ∷ u) (spaced ws)) in
    line_printed old [] (old ++ w) t2 t3 w (tag ∷ u ∷ ws) refl whole e3

-- ---- numbers with signs, one behind another

value_printed : (zs : List ℤ) (z : ℤ) → spaced (flat_map signed_words (zs ++ z ∷ [])) ≡ spaced (flat_map signed_words zs) ++ 32 ∷ signed_decimal z
value_printed zs z =
    ap spaced (flat_map-append signed_words zs (z ∷ [])) ∙ spaced_append (flat_map signed_words zs) (signed_words z)
    ∙ ap (λ (t : List ℕ). spaced (flat_map signed_words zs) ++ 32 ∷ t) (append-nil (signed_decimal z))

-- one more corner of a ring
pub corner_printed : (old t t' : List ℕ) (ring : List ℤ) (i : ℕ) (x y : ℤ) → i < length ring / 2 → x ≡ get_or ring (2 * i) (pos 0) → y ≡ get_or ring (2 * i + 1) (pos 0) → t ≡ old ++ spaced (flat_map signed_words (take (2 * i) ring)) → t' ≡ t ++ 32 ∷ (signed_decimal x ++ 32 ∷ signed_decimal y) → t' ≡ old ++ spaced (flat_map signed_words (take (2 * (i + 1)) ring))
corner_printed old t t' ring i x y inside x_is y_is before after =
    let n = 2 * i in
    let room : n + 1 < length ring = omega arith in
    let first : take (n + 1) ring ≡ take n ring ++ x ∷ [] = take_more ring n (pos 0) (omega (arith, room)) ∙ ap (λ (z : ℤ). take n ring ++ z ∷ []) (sym x_is) in
    let both : take (n + 1 + 1) ring ≡ (take n ring ++ x ∷ []) ++ y ∷ [] = take_more ring (n + 1) (pos 0) room ∙ ap₂ (λ (zs : List ℤ) (z : ℤ). zs ++ z ∷ []) first (sym y_is) in
    let so_far = spaced (flat_map signed_words (take n ring)) in
    let text : spaced (flat_map signed_words (take (n + 1 + 1) ring)) ≡ (so_far ++ 32 ∷ signed_decimal x) ++ 32 ∷ signed_decimal y =
    ap (λ (zs : List ℤ). spaced (flat_map signed_words zs)) both ∙ value_printed (take n ring ++ x ∷ []) y ∙ ap (λ (s : List ℕ). s ++ 32 ∷ signed_decimal y) (value_printed (take n ring) x) in
    let place : n + 1 + 1 ≡ 2 * (i + 1) = omega arith in
    after ∙ ap (λ (s : List ℕ). s ++ 32 ∷ (signed_decimal x ++ 32 ∷ signed_decimal y)) before
    ∙ append_assoc old so_far (32 ∷ (signed_decimal x ++ 32 ∷ signed_decimal y))
    ∙ ap (λ (s : List ℕ). old ++ s) (sym (append_assoc so_far (32 ∷ signed_decimal x) (32 ∷ signed_decimal y)) ∙ sym text)
    ∙ ap (λ (k : ℕ). old ++ spaced (flat_map signed_words (take k ring))) place
