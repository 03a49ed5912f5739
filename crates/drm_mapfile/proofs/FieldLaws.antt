-- A field that is read is spelled so, and what was spelled is read again.
use Rattle.std.proofs.Common.{◌≡◌, ℕ, suc, ◌+◌, ◌-◌, ◌^◌, ◌<◌, ◌≤◌, ℤ, pos, negsuc, Bool, true, false, ◌&&◌, cond, ltb, List, [], ◌∷◌, ◌++◌, length, get_or, take, drop, Result, Ok, Err, refl, sym, ap, subst, ◌∙◌, append_assoc, arith, inl, inr}
use Rattle.std.specs.Int.{Width, w16, w32, byte_len, from_be_bytes, to_be_bytes, cast_signed, cast_unsigned}
use Rattle.std.specs.Int.RustNames.{FitsSigned}
use Rattle.std.proofs.lemmas.Bool.{cases_lt, ltb-false, le-ltb}
use Rattle.std.proofs.lemmas.Int.{ints, to_z-of_z, of_z-to_z}
use Rattle.std.proofs.lemmas.List.{take_at, drop_at, take-append-drop, length-append, length-take, get_or-drop, get_or-take, get_or_past}
use Rattle.std.proofs.lemmas.Nat.{be_bytes_2, be_bytes_4, from_be_bytes-to_be_bytes_2, from_be_bytes-to_be_bytes_4}
use Rattle.drm_mapfile.specs.declared.fault.FileFault.{FileFault}
use Rattle.drm_mapfile.specs.declared.fault.FileFault.TheVariants.{Short, Field}
use Rattle.drm_mapfile.specs.Text.{signed}
use Rattle.drm_mapfile.specs.Fields.{◌>>=◌, byte_at, number_at, signed_at, kept, byte_field, number_field, signed_field}

-- each is a byte
abbrev pub IsBytes : List ℕ → Type 0
IsBytes bytes = (i : ℕ) → get_or bytes i 0 < 256

pub IsBytes-drop : (n : ℕ) (bytes : List ℕ) → IsBytes bytes → IsBytes (drop n bytes)
IsBytes-drop n bytes h i = rw get_or-drop (h (n + i))

IsBytes-take : (n : ℕ) (bytes : List ℕ) → IsBytes bytes → IsBytes (take n bytes)
IsBytes-take n bytes h i =
    elim (cases_lt i n) [
      | inl lt ↦ rw (get_or-take n bytes i 0 lt) (h i)
      | inr le ↦ rw (get_or_past (take n bytes) i 0 (omega (arith, length-take n bytes))) (omega arith)
    ]

-- ---- steps

-- the value of a step that did not fail
pub bind_ok : {A B : Type 0} (r : Result A FileFault) (f : A → Result B FileFault) (y : B) → (r >>= f) ≡ Ok y → (x : A) × (r ≡ Ok x) × (f x ≡ Ok y)
bind_ok (Ok x) f y e = (x, refl, e)
bind_ok (Err d) f y e = absurd cc

-- a test that did not fail
pub guard_ok : {A : Type 0} (b : Bool) (d : FileFault) (x y : A) → cond b (Err d) (Ok x) ≡ Ok y → (b ≡ false) × (x ≡ y)
guard_ok true d x y e = absurd cc
guard_ok false d x y e = (refl, cc)

pub pass_ok : {A : Type 0} (b : Bool) (d : FileFault) (x y : A) → cond b (Ok x) (Err d) ≡ Ok y → (b ≡ true) × (x ≡ y)
pass_ok true d x y e = (refl, cc)
pass_ok false d x y e = absurd cc

abbrev done : {A : Type 0} → A → Result A FileFault
done x = Ok x

pub ok_is : {A : Type 0} (x y : A) → done x ≡ done y → x ≡ y
ok_is x y e = cc

-- what a reader took from the front
pub record Takes (bytes text rest : List ℕ) : Type 0 where
  pub parts : bytes ≡ text ++ rest
  pub rest_fits : IsBytes rest

pub takes_then : (a x b y c : List ℕ) → Takes a x b → Takes b y c → Takes a (x ++ y) c
takes_then a x b y c p q = record { parts = p.parts ∙ ap (λ (t : List ℕ). x ++ t) q.parts ∙ sym (append_assoc x y c); rest_fits = q.rest_fits }

-- ---- bytes

pub byte_takes : (total : ℕ) (keeps : ℕ → Bool) (bytes : List ℕ) (n : ℕ) (rest : List ℕ) → IsBytes bytes → byte_field total keeps bytes ≡ Ok (n, rest) → Takes bytes (n ∷ []) rest × (keeps n ≡ true)
byte_takes total keeps [] n rest fits e = absurd cc
byte_takes total keeps (b ∷ bytes) n rest fits e =
    let p = pass_ok (keeps b) (Field (total - length (b ∷ bytes))) (b, bytes) (n, rest) e in
    subst (λ (x : ℕ × List ℕ). Takes (b ∷ bytes) (x.0 ∷ []) x.1 × (keeps x.0 ≡ true)) p.1 (record { parts = refl; rest_fits = λ i. fits (suc i) }, p.0)

pub byte_rest : (total : ℕ) (bytes : List ℕ) (n : ℕ) (rest : List ℕ) → IsBytes bytes → byte_at total bytes ≡ Ok (n, rest) → IsBytes rest
byte_rest total [] n rest fits e = absurd cc
byte_rest total (b ∷ bytes) n rest fits e = subst IsBytes (ap (λ (x : ℕ × List ℕ). x.1) (ok_is (b, bytes) (n, rest) e)) (λ i. fits (suc i))

-- a field that was read keeps its rule
pub signed_keeps : (total : ℕ) (keeps : ℤ → Bool) (bytes : List ℕ) (z : ℤ) (rest : List ℕ) → signed_field total keeps bytes ≡ Ok (z, rest) → keeps z ≡ true
signed_keeps total keeps bytes z rest e =
    let x = bind_ok (signed_at total bytes) (kept total bytes keeps) (z, rest) e in
    let p = pass_ok (keeps x.0.0) (Field (total - length bytes)) x.0 (z, rest) x.2 in
    subst (λ (y : ℤ × List ℕ). keeps y.0 ≡ true) p.1 p.0

pub byte_again : (total : ℕ) (keeps : ℕ → Bool) (n : ℕ) (rest : List ℕ) → keeps n ≡ true → byte_field total keeps (n ∷ rest) ≡ Ok (n, rest)
byte_again total keeps n rest h = rw h refl

-- ---- numbers

pub record IsWide (w : Width) (limit : ℕ) : Type 0 where
  pub len : (n : ℕ) → length (to_be_bytes w n) ≡ byte_len w
  pub back : (bytes : List ℕ) → length bytes ≡ byte_len w → IsBytes bytes → to_be_bytes w (from_be_bytes w bytes) ≡ bytes
  pub again : (n : ℕ) → n < limit → from_be_bytes w (to_be_bytes w n) ≡ n
  pub below : (bytes : List ℕ) → IsBytes bytes → from_be_bytes w bytes < limit

pub wide16 : IsWide w16 (2 ^ 16)
wide16 = record {
  len = λ n. refl;
  back = λ bytes len fits. be_bytes_2 bytes _ len fits refl;
  again = λ n lt. from_be_bytes-to_be_bytes_2 n lt;
  below = λ bytes fits. omega (arith, fits 0, fits 1);
}

pub wide32 : IsWide w32 (2 ^ 32)
wide32 = record {
  len = λ n. refl;
  back = λ bytes len fits. be_bytes_4 bytes _ len fits refl;
  again = λ n lt. from_be_bytes-to_be_bytes_4 n lt;
  below = λ bytes fits. omega (arith, fits 0, fits 1, fits 2, fits 3);
}

pub plain_takes : (w : Width) (limit : ℕ) (wide : IsWide w limit) (total : ℕ) (bytes : List ℕ) (n : ℕ) (rest : List ℕ) → IsBytes bytes → number_at w total bytes ≡ Ok (n, rest) → Takes bytes (to_be_bytes w n) rest × (n < limit)
plain_takes w limit wide total bytes n rest fits e =
    let g = guard_ok (ltb (length bytes) (byte_len w)) (Short total) (from_be_bytes w (take (byte_len w) bytes), drop (byte_len w) bytes) (n, rest) e in
    let long : byte_len w ≤ length bytes = ltb-false _ _ g.0 in
    let n-is : from_be_bytes w (take (byte_len w) bytes) ≡ n = ap (λ (p : ℕ × List ℕ). p.0) g.1 in
    let rest-is : drop (byte_len w) bytes ≡ rest = ap (λ (p : ℕ × List ℕ). p.1) g.1 in
    let front : to_be_bytes w n ≡ take (byte_len w) bytes = rw (← n-is) (wide.back (take (byte_len w) bytes) (omega (arith, length-take (byte_len w) bytes)) (IsBytes-take (byte_len w) bytes fits)) in
    (record { parts = rw (front, ← rest-is) (sym (take-append-drop (byte_len w) bytes)); rest_fits = rw (← rest-is) (IsBytes-drop (byte_len w) bytes fits) }, rw (← n-is) (wide.below (take (byte_len w) bytes) (IsBytes-take (byte_len w) bytes fits)))

pub plain_again : (w : Width) (limit : ℕ) (wide : IsWide w limit) (total n : ℕ) (rest : List ℕ) → n < limit → number_at w total (to_be_bytes w n ++ rest) ≡ Ok (n, rest)
plain_again w limit wide total n rest lt =
    let len = wide.len n in
    let long : ltb (length (to_be_bytes w n ++ rest)) (byte_len w) ≡ false = le-ltb _ _ (omega (arith, length-append (to_be_bytes w n) rest)) in
    rw (long, take_at (to_be_bytes w n) rest (byte_len w) len, drop_at (to_be_bytes w n) rest (byte_len w) len, wide.again n lt) refl

-- a number with a rule
pub number_takes : (w : Width) (limit : ℕ) (wide : IsWide w limit) (total : ℕ) (keeps : ℕ → Bool) (bytes : List ℕ) (n : ℕ) (rest : List ℕ) → IsBytes bytes → number_field w total keeps bytes ≡ Ok (n, rest) → Takes bytes (to_be_bytes w n) rest × (n < limit) × (keeps n ≡ true)
number_takes w limit wide total keeps bytes n rest fits e =
    let x = bind_ok (number_at w total bytes) (kept total bytes keeps) (n, rest) e in
    let p = pass_ok (keeps x.0.0) (Field (total - length bytes)) x.0 (n, rest) x.2 in
    let t = plain_takes w limit wide total bytes x.0.0 x.0.1 fits x.1 in
    subst (λ (y : ℕ × List ℕ). Takes bytes (to_be_bytes w y.0) y.1 × (y.0 < limit) × (keeps y.0 ≡ true)) p.1 (t.0, t.1, p.0)

pub number_again : (w : Width) (limit : ℕ) (wide : IsWide w limit) (total : ℕ) (keeps : ℕ → Bool) (n : ℕ) (rest : List ℕ) → n < limit → keeps n ≡ true → number_field w total keeps (to_be_bytes w n ++ rest) ≡ Ok (n, rest)
number_again w limit wide total keeps n rest lt h = ap (λ r. r >>= kept total (to_be_bytes w n ++ rest) keeps) (plain_again w limit wide total n rest lt) ∙ rw h refl

-- a signed number with a rule
pub signed_takes : (total : ℕ) (keeps : ℤ → Bool) (bytes : List ℕ) (z : ℤ) (rest : List ℕ) → IsBytes bytes → signed_field total keeps bytes ≡ Ok (z, rest) → Takes bytes (signed z) rest × (keeps z ≡ true)
signed_takes total keeps bytes z rest fits e =
    let x = bind_ok (signed_at total bytes) (kept total bytes keeps) (z, rest) e in
    let p = pass_ok (keeps x.0.0) (Field (total - length bytes)) x.0 (z, rest) x.2 in
    let y = bind_ok (number_at w16 total bytes) (λ n. Ok (cast_signed w16 n.0, n.1)) x.0 x.1 in
    let t = plain_takes w16 (2 ^ 16) wide16 total bytes y.0.0 y.0.1 fits y.1 in
    let value : cast_signed w16 y.0.0 ≡ z = ap (λ (q : ℤ × List ℕ). q.0) (ok_is (cast_signed w16 y.0.0, y.0.1) x.0 y.2 ∙ p.1) in
    let behind : y.0.1 ≡ rest = ap (λ (q : ℤ × List ℕ). q.1) (ok_is (cast_signed w16 y.0.0, y.0.1) x.0 y.2 ∙ p.1) in
    let text : to_be_bytes w16 y.0.0 ≡ signed z = ap (to_be_bytes w16) (sym (of_z-to_z w16 y.0.0 t.1) ∙ ap (cast_unsigned w16) value) in
    let same : x.0.0 ≡ z = ap (λ (q : ℤ × List ℕ). q.0) p.1 in
    (record { parts = t.0.parts ∙ ap (λ (u : List ℕ). u ++ y.0.1) text ∙ ap (λ (u : List ℕ). signed z ++ u) behind; rest_fits = rw (← behind) t.0.rest_fits }, rw (← same) p.0)

below16 : (z : ℤ) → FitsSigned w16 z → cast_unsigned w16 z < 2 ^ 16
below16 (pos n) fits = omega (arith, ints, fits.sfits)
below16 (negsuc n) fits = omega (arith, ints, fits.sfits)

pub signed_again : (total : ℕ) (keeps : ℤ → Bool) (z : ℤ) (rest : List ℕ) → FitsSigned w16 z → keeps z ≡ true → signed_field total keeps (signed z ++ rest) ≡ Ok (z, rest)
signed_again total keeps z rest fits h =
    ap (λ r. (r >>= λ n. done (cast_signed w16 n.0, n.1)) >>= kept total (signed z ++ rest) keeps) (plain_again w16 (2 ^ 16) wide16 total (cast_unsigned w16 z) rest (below16 z fits))
    ∙ rw (to_z-of_z w16 z fits, h) refl

-- ---- in a row of steps

-- a step that does not fail goes on
pub on_ok : {A B : Type 0} (r : Result A FileFault) (f : A → Result B FileFault) (x : A) (y : Result B FileFault) → r ≡ Ok x → f x ≡ y → (r >>= f) ≡ y
on_ok r f x y is next = ap (λ (q : Result _ FileFault). q >>= f) is ∙ next

pub both : (a b : Bool) → (a && b) ≡ true → (a ≡ true) × (b ≡ true)
both true true h = (refl, refl)
both true false h = absurd cc
both false b h = absurd cc

pub together : (a b : Bool) → a ≡ true → b ≡ true → (a && b) ≡ true
together a b ha hb = rw (ha, hb) refl

pub regroup3 : (a b c more : List ℕ) → (a ++ (b ++ c)) ++ more ≡ a ++ (b ++ (c ++ more))
regroup3 a b c more = append_assoc a (b ++ c) more ∙ ap (λ (t : List ℕ). a ++ t) (append_assoc b c more)
