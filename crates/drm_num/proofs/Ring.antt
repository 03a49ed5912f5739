-- Identities of polynomials over whole numbers, proved by computing a normal form.
-- `ring xs p q refl` proves that p and q have one value at the numbers xs, where `Var 0` is the first of these.
use Rattle.std.proofs.Common.{◌≡◌, ℕ, zero, suc, Bool, true, false, ◌&&◌, nat_le, nat_eq, List, [], ◌∷◌, if◌then◌else◌, ℤ, pos, negsuc, ◌+ℤ◌, ◌*ℤ◌, neg_ℤ, refl, sym, ap, ◌∙◌, arith, eqb-true}
use Rattle.std.proofs.lemmas.Int.{ints}
use lib.IntN.{+ℤ_assoc, +ℤ_comm, +ℤ_idl, +ℤ_idr}
use Rattle.drm_num.proofs.Integers.{distrib, distrib_right, comm, times_one, one_times, zero_times, assoc, left_middle, swap_middle, negated_left}

-- ---- polynomials and their values

pub data Poly : Type 0 where
  Var : ℕ → Poly
  Lit : ℤ → Poly
  Sum : Poly → Poly → Poly
  Prod : Poly → Poly → Poly
  Neg : Poly → Poly

abbrev pub value_at : List ℤ → ℕ → ℤ
value_at [] n = pos 0
value_at (x ∷ xs) zero = x
value_at (x ∷ xs) (suc n) = value_at xs n

abbrev pub eval : List ℤ → Poly → ℤ
eval xs (Var n) = value_at xs n
eval xs (Lit z) = z
eval xs (Sum p q) = eval xs p +ℤ eval xs q
eval xs (Prod p q) = eval xs p *ℤ eval xs q
eval xs (Neg p) = neg_ℤ (eval xs p)

-- ---- the normal form: a sum of terms, each a number times a sorted list of variables

pub record Term : Type 0 where
  pub by : ℤ
  pub vars : List ℕ

abbrev pub monomial : List ℤ → List ℕ → ℤ
monomial xs [] = pos 1
monomial xs (v ∷ vs) = value_at xs v *ℤ monomial xs vs

abbrev pub value : List ℤ → List Term → ℤ
value xs [] = pos 0
value xs (t ∷ ts) = (t.by *ℤ monomial xs t.vars) +ℤ value xs ts

abbrev pub put : ℕ → List ℕ → List ℕ
put v [] = v ∷ []
put v (w ∷ ws) = if nat_le v w then v ∷ (w ∷ ws) else w ∷ put v ws

abbrev pub joined : List ℕ → List ℕ → List ℕ
joined [] ws = ws
joined (v ∷ vs) ws = put v (joined vs ws)

abbrev pub same_vars : List ℕ → List ℕ → Bool
same_vars [] [] = true
same_vars [] (w ∷ ws) = false
same_vars (v ∷ vs) [] = false
same_vars (v ∷ vs) (w ∷ ws) = nat_eq v w && same_vars vs ws

abbrev pub add_term : Term → List Term → List Term
add_term t [] = t ∷ []
add_term t (u ∷ us) = if same_vars t.vars u.vars then (record { by = t.by +ℤ u.by; vars = u.vars }) ∷ us else u ∷ add_term t us

abbrev pub sum : List Term → List Term → List Term
sum [] us = us
sum (t ∷ ts) us = add_term t (sum ts us)

abbrev pub times : Term → List Term → List Term
times t [] = []
times t (u ∷ us) = add_term (record { by = t.by *ℤ u.by; vars = joined t.vars u.vars }) (times t us)

abbrev pub product : List Term → List Term → List Term
product [] us = []
product (t ∷ ts) us = sum (times t us) (product ts us)

abbrev pub minus_one : Term
minus_one = record { by = negsuc 0; vars = [] }

abbrev pub norm : Poly → List Term
norm (Var n) = (record { by = pos 1; vars = n ∷ [] }) ∷ []
norm (Lit z) = (record { by = z; vars = [] }) ∷ []
norm (Sum p q) = sum (norm p) (norm q)
norm (Prod p q) = product (norm p) (norm q)
norm (Neg p) = times minus_one (norm p)

abbrev pub is_zero : ℤ → Bool
is_zero (pos zero) = true
is_zero (pos (suc n)) = false
is_zero (negsuc n) = false

abbrev pub all_zero : List Term → Bool
all_zero [] = true
all_zero (t ∷ ts) = is_zero t.by && all_zero ts

-- ---- the normal form has the polynomial's value

choose_vars : (xs : List ℤ) (b : Bool) (ds cs : List ℕ) (z : ℤ) → (monomial xs ds ≡ z) → (monomial xs cs ≡ z) → monomial xs (if b then ds else cs) ≡ z
choose_vars xs true ds cs z p q = p
choose_vars xs false ds cs z p q = q

put_is : (xs : List ℤ) (v : ℕ) (ws : List ℕ) → monomial xs (put v ws) ≡ value_at xs v *ℤ monomial xs ws
put_is xs v [] = refl
put_is xs v (w ∷ ws) =
    choose_vars xs (nat_le v w) (v ∷ (w ∷ ws)) (w ∷ put v ws) _ refl
    (ap (λ (t : ℤ). value_at xs w *ℤ t) (put_is xs v ws) ∙ left_middle (value_at xs w) (value_at xs v) (monomial xs ws))

joined_is : (xs : List ℤ) (vs ws : List ℕ) → monomial xs (joined vs ws) ≡ monomial xs vs *ℤ monomial xs ws
joined_is xs [] ws = sym (one_times (monomial xs ws))
joined_is xs (v ∷ vs) ws =
    put_is xs v (joined vs ws) ∙ ap (λ (t : ℤ). value_at xs v *ℤ t) (joined_is xs vs ws) ∙ sym (assoc (value_at xs v) (monomial xs vs) (monomial xs ws))

both_true : (a b : Bool) → (a && b) ≡ true → (a ≡ true) × (b ≡ true)
both_true true true e = (refl, refl)
both_true true false e = cc
both_true false true e = cc
both_true false false e = cc

same_vars-true : (vs ws : List ℕ) → same_vars vs ws ≡ true → vs ≡ ws
same_vars-true [] [] e = refl
same_vars-true [] (w ∷ ws) e = cc
same_vars-true (v ∷ vs) [] e = cc
same_vars-true (v ∷ vs) (w ∷ ws) e =
    let parts = both_true (nat_eq v w) (same_vars vs ws) e in
    let first : v ≡ w = eqb-true v w parts.0 in
    let rest : vs ≡ ws = same_vars-true vs ws parts.1 in
    cc

choose_terms : (xs : List ℤ) (b c : Bool) (ts us : List Term) (z : ℤ) → b ≡ c → (b ≡ true → value xs ts ≡ z) → (value xs us ≡ z) → value xs (if b then ts else us) ≡ z
choose_terms xs true c ts us z e p q = p refl
choose_terms xs false c ts us z e p q = q

add_is : (xs : List ℤ) (t : Term) (us : List Term) → value xs (add_term t us) ≡ (t.by *ℤ monomial xs t.vars) +ℤ value xs us
add_is xs t [] = refl
add_is xs t (u ∷ us) =
    let a = t.by *ℤ monomial xs t.vars in
    let b = u.by *ℤ monomial xs u.vars in
    let rest = value xs us in
    choose_terms xs (same_vars t.vars u.vars) (same_vars t.vars u.vars) _ _ (a +ℤ (b +ℤ rest)) refl
    (λ e.
    let m : monomial xs u.vars ≡ monomial xs t.vars = ap (monomial xs) (sym (same_vars-true t.vars u.vars e)) in
    ap (λ (z : ℤ). z +ℤ rest) (distrib_right t.by u.by (monomial xs u.vars) ∙ ap (λ (z : ℤ). (t.by *ℤ z) +ℤ b) m) ∙ +ℤ_assoc a b rest)
    (ap (λ (z : ℤ). b +ℤ z) (add_is xs t us) ∙ sym (+ℤ_assoc b a rest) ∙ ap (λ (z : ℤ). z +ℤ rest) (+ℤ_comm b a) ∙ +ℤ_assoc a b rest)

sum_is : (xs : List ℤ) (ts us : List Term) → value xs (sum ts us) ≡ value xs ts +ℤ value xs us
sum_is xs [] us = sym (+ℤ_idl (value xs us))
sum_is xs (t ∷ ts) us =
    let a = t.by *ℤ monomial xs t.vars in
    add_is xs t (sum ts us) ∙ ap (λ (z : ℤ). a +ℤ z) (sum_is xs ts us) ∙ sym (+ℤ_assoc a (value xs ts) (value xs us))

times_is : (xs : List ℤ) (t : Term) (us : List Term) → value xs (times t us) ≡ (t.by *ℤ monomial xs t.vars) *ℤ value xs us
times_is xs t [] = sym (comm (t.by *ℤ monomial xs t.vars) (pos 0) ∙ zero_times (t.by *ℤ monomial xs t.vars))
times_is xs t (u ∷ us) =
    let a = t.by *ℤ monomial xs t.vars in
    let b = u.by *ℤ monomial xs u.vars in
    add_is xs _ (times t us)
    ∙ ap (λ (z : ℤ). ((t.by *ℤ u.by) *ℤ z) +ℤ value xs (times t us)) (joined_is xs t.vars u.vars)
    ∙ ap (λ (z : ℤ). z +ℤ value xs (times t us)) (swap_middle t.by u.by (monomial xs t.vars) (monomial xs u.vars))
    ∙ ap (λ (z : ℤ). (a *ℤ b) +ℤ z) (times_is xs t us)
    ∙ sym (distrib a b (value xs us))

product_is : (xs : List ℤ) (ts us : List Term) → value xs (product ts us) ≡ value xs ts *ℤ value xs us
product_is xs [] us = sym (zero_times (value xs us))
product_is xs (t ∷ ts) us =
    let a = t.by *ℤ monomial xs t.vars in
    sum_is xs (times t us) (product ts us)
    ∙ ap (λ (z : ℤ). z +ℤ value xs (product ts us)) (times_is xs t us)
    ∙ ap (λ (z : ℤ). (a *ℤ value xs us) +ℤ z) (product_is xs ts us)
    ∙ sym (distrib_right a (value xs ts) (value xs us))

norm_is : (xs : List ℤ) (p : Poly) → value xs (norm p) ≡ eval xs p
norm_is xs (Var n) = +ℤ_idr _ ∙ one_times _ ∙ times_one (value_at xs n)
norm_is xs (Lit z) = +ℤ_idr _ ∙ times_one z
norm_is xs (Sum p q) = sum_is xs (norm p) (norm q) ∙ ap (λ (z : ℤ). z +ℤ value xs (norm q)) (norm_is xs p) ∙ ap (λ (z : ℤ). eval xs p +ℤ z) (norm_is xs q)
norm_is xs (Prod p q) = product_is xs (norm p) (norm q) ∙ ap (λ (z : ℤ). z *ℤ value xs (norm q)) (norm_is xs p) ∙ ap (λ (z : ℤ). eval xs p *ℤ z) (norm_is xs q)
norm_is xs (Neg p) = times_is xs minus_one (norm p) ∙ ap (λ (z : ℤ). negsuc 0 *ℤ z) (norm_is xs p) ∙ negated_left (pos 1) (eval xs p) ∙ ap neg_ℤ (one_times (eval xs p))

is_zero-true : (z : ℤ) → is_zero z ≡ true → z ≡ pos 0
is_zero-true (pos zero) e = refl
is_zero-true (pos (suc n)) e = cc
is_zero-true (negsuc n) e = cc

all_zero_is : (xs : List ℤ) (ts : List Term) → all_zero ts ≡ true → value xs ts ≡ pos 0
all_zero_is xs [] e = refl
all_zero_is xs (t ∷ ts) e =
    let parts = both_true (is_zero t.by) (all_zero ts) e in
    ap (λ (z : ℤ). (z *ℤ monomial xs t.vars) +ℤ value xs ts) (is_zero-true t.by parts.0)
    ∙ ap (λ (z : ℤ). z +ℤ value xs ts) (zero_times (monomial xs t.vars))
    ∙ +ℤ_idl (value xs ts)
    ∙ all_zero_is xs ts parts.1

equal_from_zero : (a b : ℤ) → a +ℤ neg_ℤ b ≡ pos 0 → a ≡ b
equal_from_zero a b e = omega (arith, ints)

-- p and q have the same value at xs, wherever their difference has the normal form 0
pub ring : (xs : List ℤ) (p q : Poly) → all_zero (norm (Sum p (Neg q))) ≡ true → eval xs p ≡ eval xs q
ring xs p q e = equal_from_zero (eval xs p) (eval xs q) (sym (norm_is xs (Sum p (Neg q))) ∙ all_zero_is xs (norm (Sum p (Neg q))) e)

-- a use: the square of a sum
square_of_sum : (a b : ℤ) → (a +ℤ b) *ℤ (a +ℤ b) ≡ ((a *ℤ a) +ℤ (pos 2 *ℤ (a *ℤ b))) +ℤ (b *ℤ b)
square_of_sum a b =
    let x = Var 0 in
    let y = Var 1 in
    ring (a ∷ b ∷ []) (Prod (Sum x y) (Sum x y)) (Sum (Sum (Prod x x) (Prod (Lit (pos 2)) (Prod x y))) (Prod y y)) refl
