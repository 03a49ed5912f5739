-- Values that are read one after another.
use Rattle.std.proofs.Common.{◌≡◌, ℕ, Bool, true, false, cond, List, [], ◌∷◌, Result, Ok, Err, refl, ◌<◌, decimal, drop, ap, ◌∙◌, ◌++◌, sym, suc}
use Rattle.std.proofs.lemmas.Slice.Eq.{bytes_eq-Decides}
use Rattle.drm_script.specs.declared.words.WordFault.{WordFault}
use Rattle.drm_script.specs.declared.words.WordFault.TheVariants.{Bad}
use Rattle.drm_script.specs.Reader.{◌>>=◌, starts, ended, unsigned_at, Reads, many_at}
use Rattle.drm_script.proofs.FieldLemmas.{unsigned_takes}

abbrev done : {X F : Type 0} → X → Result X F
done x = Ok x

abbrev pub refused : {X : Type 0} → WordFault → Result X WordFault
refused f = Err f

-- a value that was read is one value
pub ok_is : {X F : Type 0} (x y : X) → done {X = X} {F = F} x ≡ done y → x ≡ y
ok_is x y e = cc

pub ok_err : {X F : Type 0} (x : X) (f : F) → done {X = X} {F = F} x ≡ Err f → ⊥
ok_err x f e = cc

-- what stands in front was read, and then what stands behind it
pub bind_ok : {A B F : Type 0} (r : Result A F) (f : A → Result B F) (y : B) → (r >>= f) ≡ Ok y → (x : A) × (r ≡ Ok x) × (f x ≡ Ok y)
bind_ok (Ok x) f y e = (x, refl, e)
bind_ok (Err d) f y e = absurd cc

-- no word is left behind the value
pub ended_ok : {X : Type 0} (x : X) (ws : List (List ℕ)) (y : X) → ended (x, ws) ≡ Ok y → (ws ≡ []) × (x ≡ y)
ended_ok x [] y e = (refl, ok_is x y e)
ended_ok x (w ∷ ws) y e = absurd cc

-- the word of a kind stands in front, or that of another one
by_test : {X : Type 0} (P : Type 0) (b : Bool) (one other : Result X WordFault) (y : X) → (b ≡ true → one ≡ Ok y → P) → (other ≡ Ok y → P) → cond b one other ≡ Ok y → P
by_test P true one other y this that h = this refl h
by_test P false one other y this that h = that h

pub starts_is : (tag : List ℕ) (ws : List (List ℕ)) → starts tag ws ≡ true → ws ≡ tag ∷ drop 1 ws
starts_is tag [] h = absurd cc
starts_is tag (w ∷ ws) h = ap (λ (x : List ℕ). x ∷ ws) ((bytes_eq-Decides w tag).0 h)

pub kind_ok : {X : Type 0} (P : Type 0) (tag : List ℕ) (ws : List (List ℕ)) (one other : Result X WordFault) (y : X) → (ws ≡ tag ∷ drop 1 ws → one ≡ Ok y → P) → (other ≡ Ok y → P) → cond (starts tag ws) one other ≡ Ok y → P
kind_ok P tag ws one other y this that h = by_test P (starts tag ws) one other y (λ t. this (starts_is tag ws t)) that h

pub no_kind : {X : Type 0} (P : Type 0) (y : X) → refused {X = X} Bad ≡ Ok y → P
no_kind P y h = absurd cc

-- one number below the limit is the rest of the line
pub number_ok : {X : Type 0} (make : ℕ → X) (limit : ℕ) (ws : List (List ℕ)) (y : X) → (unsigned_at limit ws >>= λ n. ended (make n.0, n.1)) ≡ Ok y → (n : ℕ) × (n < limit) × (ws ≡ decimal n ∷ []) × (make n ≡ y)
number_ok make limit ws y e =
    let n = bind_ok (unsigned_at limit ws) (λ n. ended (make n.0, n.1)) y e in
    let end = ended_ok (make n.0.0) n.0.1 y n.2 in
    let t = unsigned_takes limit ws n.0.0 n.0.1 n.1 in
    (n.0.0, t.1, t.0 ∙ ap (λ (more : List (List ℕ)). decimal n.0.0 ∷ more) end.0, end.1)

-- the first word of a kind, and the others
pub row_is : (tag : List ℕ) (ws vs : List (List ℕ)) → ws ≡ tag ∷ drop 1 ws → drop 1 ws ≡ vs → ws ≡ tag ∷ vs
row_is tag ws vs first others = first ∙ ap (λ (xs : List (List ℕ)). tag ∷ xs) others

-- one of so many values is read, and the others are behind it
pub many_goes_on : {X : Type 0} (read : Reads X) (n : ℕ) (front : List X) (ws : List (List ℕ)) (x : X) (more : List (List ℕ)) (all : Result (List X × List (List ℕ)) WordFault) → read ws ≡ Ok (x, more) → many_at read (suc n) front ws ≡ all → many_at read n (front ++ x ∷ []) more ≡ all
many_goes_on {X = X} read n front ws x more all one h =
    sym (ap (λ (r : Result (X × List (List ℕ)) WordFault). r >>= λ x. many_at read n (front ++ x.0 ∷ []) x.1) one) ∙ h
