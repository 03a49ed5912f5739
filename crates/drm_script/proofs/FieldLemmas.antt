-- Numbers as words: what is read of a spelling, and what is a spelling where a number is read.
use Rattle.std.proofs.Common.{◌≡◌, ◌≢◌, ℕ, ◌^◌, ◌<◌, ◌≤◌, ◌-◌, Bool, true, false, cond, ltb, eqb, ◌&&◌, List, [], ◌∷◌, Result, Ok, Err, decimal, refl, sym, ap, subst, ◌∙◌, arith, suc, get_or, pos, negsuc}
use Rattle.std.specs.Fmt.{signed_decimal}
use Rattle.std.specs.Str.{bytes_eq}
use Rattle.std.specs.Str.Parse.{digits_value}
use Rattle.std.specs.Int.{w32}
use Rattle.std.specs.Int.RustNames.{FitsSigned}
use Rattle.std.proofs.lemmas.Bool.{lt-ltb, ltb-true}
use Rattle.std.proofs.lemmas.Slice.Eq.{bytes_eq-Decides}
use Rattle.drm_script.specs.declared.words.WordFault.{WordFault}
use Rattle.drm_script.specs.declared.words.WordFault.TheVariants.{Bad, Memory}
use Rattle.drm_script.specs.Reader.{Fails, unsigned_at, signed_at, signed_value, fits_32}
use Rattle.std.proofs.lemmas.Fmt.{decimal_injective}
use Rattle.drm_script.proofs.NumberLemmas.{value_of_decimal, first_digit}
use Rattle.drm_script.proofs.TestLemmas.{false_from_ne, parts_true}
use lib.IntN.{ℤ}

abbrev done : {X F : Type 0} → X → Result X F
done x = Ok x

pub chosen : {X F : Type 0} (b : Bool) (x y : X) (f : F) → cond b (Ok x) (Err f) ≡ Ok y → (b ≡ true) × (x ≡ y)
chosen true x y f h = (refl, cc)
chosen false x y f h = absurd cc

pub not_chosen : {X F : Type 0} (b : Bool) (x : X) (f : F) → (b ≡ true → ⊥) → cond b (Ok x) (Err f) ≡ Err f
not_chosen true x f h = absurd (h refl)
not_chosen false x f h = refl

pub ok_err : {X F : Type 0} (x : X) (f : F) → done x ≡ Err f → ⊥
ok_err x f e = cc

pub same_bytes : (w : List ℕ) → bytes_eq w w ≡ true
same_bytes w = (bytes_eq-Decides w w).1 refl

pub unsigned_again : (limit n : ℕ) (ws : List (List ℕ)) → limit ≤ 2 ^ 64 → n < limit → unsigned_at limit (decimal n ∷ ws) ≡ Ok (n, ws)
unfolding unsigned_at
unsigned_again limit n ws small below = rw (value_of_decimal n (omega arith), same_bytes (decimal n), lt-ltb n limit below) refl

pub unsigned_takes : (limit : ℕ) (ws : List (List ℕ)) (n : ℕ) (more : List (List ℕ)) → unsigned_at limit ws ≡ Ok (n, more) → (ws ≡ decimal n ∷ more) × (n < limit)
unfolding unsigned_at
unsigned_takes limit [] n more e = absurd cc
unsigned_takes limit (w ∷ ws) n more e =
    let v = digits_value 10 w in
    let c = chosen (bytes_eq (decimal v) w && ltb v limit) (v, ws) (n, more) Bad e in
    let p = parts_true (bytes_eq (decimal v) w) (ltb v limit) c.0 in
    let same : v ≡ n = ap (λ (x : ℕ × List (List ℕ)). x.0) c.1 in
    let rest : ws ≡ more = ap (λ (x : ℕ × List (List ℕ)). x.1) c.1 in
    let word : decimal v ≡ w = (bytes_eq-Decides (decimal v) w).0 p.0 in
    (ap (λ (x : List ℕ). x ∷ ws) (sym word ∙ ap decimal same) ∙ ap (λ (x : List (List ℕ)). decimal n ∷ x) rest, omega (arith, ltb-true v limit p.1, same))

-- the same, from what the code knows of the words
pub unsigned_end : (limit : ℕ) (words : List (List ℕ)) → words ≡ [] → unsigned_at limit words ≡ Err Bad
unfolding unsigned_at
unsigned_end limit words none = ap (unsigned_at limit) none

pub unsigned_none : (limit : ℕ) (words : List (List ℕ)) (w : List ℕ) (ws : List (List ℕ)) → words ≡ w ∷ ws → ((n : ℕ) → n < limit → w ≢ decimal n) → unsigned_at limit words ≡ Err Bad
unfolding unsigned_at
unsigned_none limit words w ws is none =
    let v = digits_value 10 w in
    ap (unsigned_at limit) is ∙ not_chosen (bytes_eq (decimal v) w && ltb v limit) (v, ws) Bad (λ t.
    let p = parts_true (bytes_eq (decimal v) w) (ltb v limit) t in
    none v (ltb-true v limit p.1) (sym ((bytes_eq-Decides (decimal v) w).0 p.0)))

pub unsigned_some : (limit : ℕ) (words : List (List ℕ)) (w : List ℕ) (ws : List (List ℕ)) (n : ℕ) → limit ≤ 2 ^ 64 → words ≡ w ∷ ws → n < limit → w ≡ decimal n → unsigned_at limit words ≡ Ok (n, ws)
unsigned_some limit words w ws n small is below word = ap (unsigned_at limit) (is ∙ ap (λ (x : List ℕ). x ∷ ws) word) ∙ unsigned_again limit n ws small below

-- a number that is read may be too great for its place
none_below : (limit small : ℕ) (words : List (List ℕ)) → limit ≤ 2 ^ 64 → small ≤ limit → unsigned_at limit words ≡ Err Bad → unsigned_at small words ≡ Err Bad
unfolding unsigned_at
none_below limit small [] fits less none = refl
none_below limit small (w ∷ ws) fits less none = unsigned_none small (w ∷ ws) w ws refl (λ n below is.
    absurd (ok_err (n, ws) Bad (sym (unsigned_some limit (w ∷ ws) w ws n fits refl (omega arith) is) ∙ none)))

pub below_fails : (e : WordFault) (limit small : ℕ) (words : List (List ℕ)) → limit ≤ 2 ^ 64 → small ≤ limit → Fails e (unsigned_at limit words) → Fails e (unsigned_at small words)
below_fails Memory limit small words fits less h = tt
below_fails Bad limit small words fits less h = none_below limit small words fits less h

pub below_some : (limit small n : ℕ) (words ws : List (List ℕ)) → limit ≤ 2 ^ 64 → small ≤ limit → unsigned_at limit words ≡ Ok (n, ws) → n < small → unsigned_at small words ≡ Ok (n, ws)
below_some limit small n words ws fits less h below =
    let p = unsigned_takes limit words n ws h in
    ap (unsigned_at small) p.0 ∙ unsigned_again small n ws (omega arith) below

pub below_great : (limit small n : ℕ) (words ws : List (List ℕ)) → limit ≤ 2 ^ 64 → small ≤ limit → unsigned_at limit words ≡ Ok (n, ws) → small ≤ n → unsigned_at small words ≡ Err Bad
below_great limit small n words ws fits less h great =
    let p = unsigned_takes limit words n ws h in
    unsigned_none small words (decimal n) ws p.0 (λ m below is. omega (arith, decimal_injective n m (omega arith) (omega arith) is))

-- ---- with a sign

fits_again : (z : ℤ) → FitsSigned w32 z → fits_32 z ≡ true
fits_again (pos n) fits = lt-ltb n (2 ^ 31) (omega (arith, fits.sfits))
fits_again (negsuc n) fits = lt-ltb n (2 ^ 31) (omega (arith, fits.sfits))

fits_takes : (z : ℤ) → fits_32 z ≡ true → FitsSigned w32 z
fits_takes (pos n) fits = record { sfits = omega (arith, ltb-true n (2 ^ 31) fits) }
fits_takes (negsuc n) fits = record { sfits = omega (arith, ltb-true n (2 ^ 31) fits) }

value_of_signed : (z : ℤ) → FitsSigned w32 z → signed_value (signed_decimal z) ≡ z
value_of_signed (pos n) fits =
    let small : n < 2 ^ 64 = omega (arith, fits.sfits) in
    let plain : eqb (get_or (decimal n) 0 0) 45 ≡ false = false_from_ne _ 45 (λ is. omega (arith, is, first_digit n small)) in
    rw plain (ap pos (value_of_decimal n small))
value_of_signed (negsuc n) fits =
    let same : suc n - 1 ≡ n = omega arith in
    ap (λ (k : ℕ). negsuc (k - 1)) (value_of_decimal (suc n) (omega (arith, fits.sfits))) ∙ ap negsuc same

pub signed_again : (z : ℤ) (ws : List (List ℕ)) → FitsSigned w32 z → signed_at (signed_decimal z ∷ ws) ≡ Ok (z, ws)
unfolding signed_at
signed_again z ws fits = rw (value_of_signed z fits, same_bytes (signed_decimal z), fits_again z fits) refl

pub signed_takes : (ws : List (List ℕ)) (z : ℤ) (more : List (List ℕ)) → signed_at ws ≡ Ok (z, more) → (ws ≡ signed_decimal z ∷ more) × FitsSigned w32 z
unfolding signed_at
signed_takes [] z more e = absurd cc
signed_takes (w ∷ ws) z more e =
    let v = signed_value w in
    let c = chosen (bytes_eq (signed_decimal v) w && fits_32 v) (v, ws) (z, more) Bad e in
    let p = parts_true (bytes_eq (signed_decimal v) w) (fits_32 v) c.0 in
    let same : v ≡ z = ap (λ (x : ℤ × List (List ℕ)). x.0) c.1 in
    let rest : ws ≡ more = ap (λ (x : ℤ × List (List ℕ)). x.1) c.1 in
    let word : signed_decimal v ≡ w = (bytes_eq-Decides (signed_decimal v) w).0 p.0 in
    (ap (λ (x : List ℕ). x ∷ ws) (sym word ∙ ap signed_decimal same) ∙ ap (λ (x : List (List ℕ)). signed_decimal z ∷ x) rest, subst (λ (x : ℤ). FitsSigned w32 x) same (fits_takes v p.1))

pub signed_end : (words : List (List ℕ)) → words ≡ [] → signed_at words ≡ Err Bad
unfolding signed_at
signed_end words none = ap signed_at none

pub signed_none : (words : List (List ℕ)) (w : List ℕ) (ws : List (List ℕ)) → words ≡ w ∷ ws → ((z : ℤ) → FitsSigned w32 z → w ≢ signed_decimal z) → signed_at words ≡ Err Bad
unfolding signed_at
signed_none words w ws is none =
    let v = signed_value w in
    ap signed_at is ∙ not_chosen (bytes_eq (signed_decimal v) w && fits_32 v) (v, ws) Bad (λ t.
    let p = parts_true (bytes_eq (signed_decimal v) w) (fits_32 v) t in
    none v (fits_takes v p.1) (sym ((bytes_eq-Decides (signed_decimal v) w).0 p.0)))

pub signed_some : (words : List (List ℕ)) (w : List ℕ) (ws : List (List ℕ)) (z : ℤ) → words ≡ w ∷ ws → FitsSigned w32 z → w ≡ signed_decimal z → signed_at words ≡ Ok (z, ws)
signed_some words w ws z is fits word = ap signed_at (is ∙ ap (λ (x : List ℕ). x ∷ ws) word) ∙ signed_again z ws fits
