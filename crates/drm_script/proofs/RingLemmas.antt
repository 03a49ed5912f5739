-- Rings: what was spelled is read, and what is read is spelled so.
use Rattle.std.proofs.Common.{◌≡◌, ℕ, ◌≤◌, ◌%◌, Bool, true, cond, ltb, zero, suc, List, [], ◌∷◌, ◌++◌, length, flat_map, Result, Ok, Err, refl, sym, ap, ◌∙◌, arith, append_assoc, eq-eqb}
use Rattle.std.specs.List.{All}
use Rattle.std.specs.Int.{w32}
use Rattle.std.specs.Int.RustNames.{FitsSigned}
use Rattle.std.proofs.lemmas.Bool.{lt-ltb, ltb-true}
use Rattle.std.proofs.lemmas.List.{append-nil}
use Rattle.std.proofs.lemmas.List.Elements.{All-head, All-tail}
use borrow.Author.Tests.{true-eqb}
use Rattle.drm_shape.specs.Corners.{IsRing}
use Rattle.drm_script.specs.declared.words.WordFault.{WordFault}
use Rattle.drm_script.specs.declared.words.WordFault.TheVariants.{Bad, Memory}
use Rattle.drm_script.specs.Limits.{ring_limit}
use Rattle.drm_script.specs.Log.{signed_words}
use Rattle.drm_script.specs.Reader.{◌>>=◌, Fails, signed_at, all_of}
use Rattle.drm_script.specs.Reading.{is_ring, ring_of}
use Rattle.drm_script.proofs.TestLemmas.{both_true, parts_true, false_from_not}
use Rattle.drm_script.proofs.FieldLemmas.{signed_again, signed_takes, chosen}
use Rattle.drm_script.proofs.ReaderLemmas.{ok_is, bind_ok}
use lib.IntN.{ℤ}

-- ---- how many coordinates there are

pub ring_test : (xy : List ℤ) → IsRing xy → is_ring xy ≡ true
ring_test xy h =
    both_true (ltb 5 (length xy)) _ (lt-ltb 5 (length xy) (omega (arith, h.least)))
    (both_true (ltb (length xy) 17) _ (lt-ltb (length xy) 17 (omega (arith, h.most))) (eq-eqb (length xy % 2) 0 h.paired))

pub ring_tested : (xy : List ℤ) → is_ring xy ≡ true → IsRing xy
ring_tested xy h =
    let p = parts_true (ltb 5 (length xy)) _ h in
    let q = parts_true (ltb (length xy) 17) _ p.1 in
    record {
      least = omega (arith, ltb-true 5 (length xy) p.0);
      most = omega (arith, ltb-true (length xy) 17 q.0);
      paired = true-eqb (length xy % 2) 0 (sym q.1);
    }

-- ---- the coordinates

all_again : (n : ℕ) (front xs : List ℤ) → length xs ≤ n → All (FitsSigned w32) xs → all_of signed_at n front (flat_map signed_words xs) ≡ Ok (front ++ xs)
all_again n front [] few fits = ap (λ (zs : List ℤ). Ok zs) (sym (append-nil front))
all_again zero front (x ∷ xs) few fits = absurd (omega (arith, few))
all_again (suc n) front (x ∷ xs) few fits =
    ap (λ (r : Result (ℤ × List (List ℕ)) WordFault). r >>= λ x. all_of signed_at n (front ++ x.0 ∷ []) x.1) (signed_again x (flat_map signed_words xs) (All-head (FitsSigned w32) x xs fits))
    ∙ all_again n (front ++ x ∷ []) xs (omega (arith, few)) (All-tail (FitsSigned w32) x xs fits)
    ∙ ap (λ (zs : List ℤ). Ok zs) (append_assoc front (x ∷ []) xs)

all_takes : (n : ℕ) (front : List ℤ) (ws : List (List ℕ)) (all : List ℤ) → all_of signed_at n front ws ≡ Ok all → (xs : List ℤ) × (front ++ xs ≡ all) × (ws ≡ flat_map signed_words xs)
all_takes n front [] all h = ([], append-nil front ∙ ok_is front all h, refl)
all_takes zero front (w ∷ ws) all h = absurd cc
all_takes (suc n) front (w ∷ ws) all h =
    let x = bind_ok (signed_at (w ∷ ws)) (λ x. all_of signed_at n (front ++ x.0 ∷ []) x.1) all h in
    let a = signed_takes (w ∷ ws) x.0.0 x.0.1 x.1 in
    let m = all_takes n (front ++ x.0.0 ∷ []) x.0.1 all x.2 in
    (x.0.0 ∷ m.0, sym (append_assoc front (x.0.0 ∷ []) m.0) ∙ m.1, a.0 ∙ ap (λ (v : List (List ℕ)). signed_words x.0.0 ++ v) m.2)

pub ring_again : (ring : List ℤ) → IsRing ring → All (FitsSigned w32) ring → ring_of (flat_map signed_words ring) ≡ Ok ring
unfolding ring_of
ring_again ring form fits =
    ap (λ (r : Result (List ℤ) WordFault). r >>= λ xy. cond (is_ring xy) (Ok xy) (Err Bad)) (all_again ring_limit [] ring form.most fits)
    ∙ ap (λ (b : Bool). cond b (Ok ring) (Err Bad)) (ring_test ring form)

pub ring_takes : (ws : List (List ℕ)) (ring : List ℤ) → ring_of ws ≡ Ok ring → ws ≡ flat_map signed_words ring
unfolding ring_of
ring_takes ws ring h =
    let xy = bind_ok (all_of signed_at ring_limit [] ws) (λ xy. cond (is_ring xy) (Ok xy) (Err Bad)) ring h in
    let a = all_takes ring_limit [] ws xy.0 xy.1 in
    let same = chosen (is_ring xy.0) xy.0 ring Bad xy.2 in
    a.2 ∙ ap (λ (zs : List ℤ). flat_map signed_words zs) (a.1 ∙ same.1)

-- ---- one coordinate after another, in the code

abbrev Read : Type 0
Read = Result (List ℤ) WordFault

pub one_more_there : (n : ℕ) (front : List ℤ) (ws : List (List ℕ)) (x : ℤ) (more : List (List ℕ)) (whole : Read) → ¬ (ws ≡ []) → signed_at ws ≡ Ok (x, more) → all_of signed_at (suc n) front ws ≡ whole → all_of signed_at n (front ++ x ∷ []) more ≡ whole
one_more_there n front [] x more whole some one h = absurd (some refl)
one_more_there n front (w ∷ ws) x more whole some one h =
    sym (ap (λ (r : Result (ℤ × List (List ℕ)) WordFault). r >>= λ x. all_of signed_at n (front ++ x.0 ∷ []) x.1) one) ∙ h

pub none_there : (n : ℕ) (front : List ℤ) (ws : List (List ℕ)) (whole : Read) → ¬ (ws ≡ []) → signed_at ws ≡ Err Bad → all_of signed_at (suc n) front ws ≡ whole → whole ≡ Err Bad
none_there n front [] whole some none h = absurd (some refl)
none_there n front (w ∷ ws) whole some none h =
    sym h ∙ ap (λ (r : Result (ℤ × List (List ℕ)) WordFault). r >>= λ x. all_of signed_at n (front ++ x.0 ∷ []) x.1) none

pub too_many_there : (front : List ℤ) (ws : List (List ℕ)) (whole : Read) → ¬ (ws ≡ []) → all_of signed_at 0 front ws ≡ whole → whole ≡ Err Bad
too_many_there front [] whole some h = absurd (some refl)
too_many_there front (w ∷ ws) whole some h = sym h

pub all_there : (n : ℕ) (front : List ℤ) (ws : List (List ℕ)) (whole : Read) → ws ≡ [] → all_of signed_at n front ws ≡ whole → whole ≡ Ok front
all_there n front ws whole none h = sym h ∙ ap (all_of signed_at n front) none

-- from all coordinates to the ring
pub ring_read : (ws : List (List ℕ)) (xy : List ℤ) → all_of signed_at ring_limit [] ws ≡ Ok xy → IsRing xy → ring_of ws ≡ Ok xy
unfolding ring_of
ring_read ws xy all form =
    ap (λ (r : Read). r >>= λ xy. cond (is_ring xy) (Ok xy) (Err Bad)) all ∙ ap (λ (b : Bool). cond b (Ok xy) (Err Bad)) (ring_test xy form)

pub no_ring_read : (ws : List (List ℕ)) (xy : List ℤ) → all_of signed_at ring_limit [] ws ≡ Ok xy → ¬ IsRing xy → ring_of ws ≡ Err Bad
unfolding ring_of
no_ring_read ws xy all none =
    ap (λ (r : Read). r >>= λ xy. cond (is_ring xy) (Ok xy) (Err Bad)) all
    ∙ ap (λ (b : Bool). cond b (Ok xy) (Err Bad)) (sym (false_from_not (is_ring xy) (λ t. none (ring_tested xy t))))

pub no_coordinates_read : (ws : List (List ℕ)) → all_of signed_at ring_limit [] ws ≡ Err Bad → ring_of ws ≡ Err Bad
unfolding ring_of
no_coordinates_read ws none = ap (λ (r : Read). r >>= λ xy. cond (is_ring xy) (Ok xy) (Err Bad)) none

pub ring_fails : (e : WordFault) (n : ℕ) (front : List ℤ) (ws all : List (List ℕ)) → ¬ (ws ≡ []) → Fails e (signed_at ws) → all_of signed_at (suc n) front ws ≡ all_of signed_at ring_limit [] all → Fails e (ring_of all)
ring_fails Memory n front ws all some fails h = tt
ring_fails Bad n front ws all some fails h = no_coordinates_read all (none_there n front ws (all_of signed_at ring_limit [] all) some fails h)
