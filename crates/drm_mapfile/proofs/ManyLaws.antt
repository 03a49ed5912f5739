-- Values that stand one after another: what is read of them is spelled so, and what was spelled is read again.
use Rattle.std.proofs.Common.{◌≡◌, ℕ, zero, suc, ◌+◌, ◌≤◌, List, [], ◌∷◌, ◌++◌, length, Result, Ok, refl, sym, ap, subst, ◌∙◌, append_assoc, arith}
use Rattle.std.specs.Prelude.{All, sum_by, flat_map}
use Rattle.std.proofs.lemmas.List.{append-nil}
use Rattle.std.proofs.lemmas.List.Elements.{All-nil, All-cons, All-head, All-tail}
use Rattle.std.proofs.lemmas.List.Concat.{flat_map-cons}
use Rattle.std.proofs.lemmas.List.Sums.{sum_by_push}
use Rattle.drm_mapfile.specs.declared.fault.FileFault.{FileFault}
use Rattle.drm_mapfile.specs.Fields.{◌>>=◌, many}
use Rattle.drm_mapfile.proofs.FieldLaws.{IsBytes, Takes, takes_then, bind_ok, ok_is}

-- each of the values fits behind those before it
abbrev pub AllAfter : {X : Type 0} → (List X → X → Type 0) → List X → List X → Type 0
AllAfter Fits front [] = Unit {0}
AllAfter Fits front (x ∷ xs) = Fits front x × AllAfter Fits (front ++ x ∷ []) xs

-- what many readings took
pub record TakesMany {X : Type 0} (text : X → List ℕ) (Fits : List X → X → Type 0) (n : ℕ) (front all : List X) (s more : List ℕ) : Type 0 where
  pub new : List X
  pub behind : all ≡ front ++ new
  pub counted : length new ≡ n
  pub taken : Takes s (flat_map text new) more
  pub fit : AllAfter Fits front new

pub many_takes : {X : Type 0} (read : List X → List ℕ → Result (X × List ℕ) FileFault) (text : X → List ℕ) (Fits : List X → X → Type 0)
    → ((front : List X) (s : List ℕ) (x : X) (more : List ℕ) → IsBytes s → read front s ≡ Ok (x, more) → Takes s (text x) more × Fits front x)
    → (n : ℕ) (front all : List X) (s more : List ℕ) → IsBytes s → many read n front s ≡ Ok (all, more) → TakesMany text Fits n front all s more
unfolding many
many_takes {X} read text Fits one zero front all s more fits e =
    let parts = ok_is (front, s) (all, more) e in
    let same : front ≡ all = ap (λ (p : List X × List ℕ). p.0) parts in
    let rest : s ≡ more = ap (λ (p : List X × List ℕ). p.1) parts in
    record { new = []; behind = sym same ∙ sym (append-nil front); counted = refl; taken = record { parts = rest; rest_fits = subst IsBytes rest fits }; fit = tt }
many_takes {X} read text Fits one (suc n) front all s more fits e =
    let x = bind_ok (read front s) (λ x. many read n (front ++ x.0 ∷ []) x.1) (all, more) e in
    let first = one front s x.0.0 x.0.1 fits x.1 in
    let others = many_takes read text Fits one n (front ++ x.0.0 ∷ []) all x.0.1 more first.0.rest_fits x.2 in
    let both = takes_then s (text x.0.0) x.0.1 (flat_map text others.new) more first.0 others.taken in
    record {
      new = x.0.0 ∷ others.new;
      behind = others.behind ∙ append_assoc front (x.0.0 ∷ []) others.new;
      counted = ap suc others.counted;
      taken = subst (λ (t : List ℕ). Takes s t more) (sym (flat_map-cons text x.0.0 others.new)) both;
      fit = (first.1, others.fit);
    }

-- the same from the start
pub record TakesAll {X : Type 0} (text : X → List ℕ) (Fits : List X → X → Type 0) (n : ℕ) (all : List X) (s more : List ℕ) : Type 0 where
  pub counted : length all ≡ n
  pub taken : Takes s (flat_map text all) more
  pub fit : AllAfter Fits [] all

pub all_takes : {X : Type 0} (read : List X → List ℕ → Result (X × List ℕ) FileFault) (text : X → List ℕ) (Fits : List X → X → Type 0)
    → ((front : List X) (s : List ℕ) (x : X) (more : List ℕ) → IsBytes s → read front s ≡ Ok (x, more) → Takes s (text x) more × Fits front x)
    → (n : ℕ) (all : List X) (s more : List ℕ) → IsBytes s → many read n [] s ≡ Ok (all, more) → TakesAll text Fits n all s more
all_takes {X} read text Fits one n all s more fits e =
    let t = many_takes read text Fits one n [] all s more fits e in
    let same : t.new ≡ all = sym t.behind in
    record {
      counted = ap length (sym same) ∙ t.counted;
      taken = subst (λ (xs : List X). Takes s (flat_map text xs) more) same t.taken;
      fit = subst (λ (xs : List X). AllAfter Fits [] xs) same t.fit;
    }

pub many_again : {X : Type 0} (read : List X → List ℕ → Result (X × List ℕ) FileFault) (text : X → List ℕ) (Fits : List X → X → Type 0)
    → ((front : List X) (x : X) (more : List ℕ) → Fits front x → read front (text x ++ more) ≡ Ok (x, more))
    → (front xs : List X) (more : List ℕ) → AllAfter Fits front xs → many read (length xs) front (flat_map text xs ++ more) ≡ Ok (front ++ xs, more)
unfolding many
many_again read text Fits one front [] more fit = ap (λ (f : List _). Ok (f, more)) (sym (append-nil front))
many_again {X} read text Fits one front (x ∷ xs) more fit =
    let regrouped : flat_map text (x ∷ xs) ++ more ≡ text x ++ (flat_map text xs ++ more) = ap (λ (t : List ℕ). t ++ more) (flat_map-cons text x xs) ∙ append_assoc (text x) (flat_map text xs) more in
    ap (many read (suc (length xs)) front) regrouped
    ∙ ap (λ (r : Result (X × List ℕ) FileFault). r >>= λ y. many read (length xs) (front ++ y.0 ∷ []) y.1) (one front x (flat_map text xs ++ more) fit.0)
    ∙ many_again read text Fits one (front ++ x ∷ []) xs more fit.1
    ∙ ap (λ (f : List X). Ok (f, more)) (append_assoc front (x ∷ []) xs)

-- ---- what fits behind others, one by one, and all together

pub after_all : {X : Type 0} (Fits : List X → X → Type 0) (P : X → Type 0) → ((front : List X) (x : X) → Fits front x → P x) → (front xs : List X) → AllAfter Fits front xs → All P xs
after_all Fits P weaker front [] fit = All-nil P
after_all Fits P weaker front (x ∷ xs) fit = All-cons P x xs (weaker front x fit.0) (after_all Fits P weaker (front ++ x ∷ []) xs fit.1)

-- a running sum
pub sum_after : {X : Type 0} (Fits : List X → X → Type 0) (f : X → ℕ) (limit : ℕ) → ((front : List X) (x : X) → Fits front x → sum_by f front + f x ≤ limit) → (front xs : List X) → sum_by f front ≤ limit → AllAfter Fits front xs → sum_by f (front ++ xs) ≤ limit
sum_after Fits f limit bound front [] so_far fit = rw append-nil so_far
sum_after {X} Fits f limit bound front (x ∷ xs) so_far fit =
    let next : sum_by f (front ++ x ∷ []) ≤ limit = rw (sum_by_push f front x) (bound front x fit.0) in
    subst (λ (ys : List X). sum_by f ys ≤ limit) (append_assoc front (x ∷ []) xs) (sum_after Fits f limit bound (front ++ x ∷ []) xs next fit.1)

sum_front : {X : Type 0} (f : X → ℕ) (front xs : List X) → sum_by f front ≤ sum_by f (front ++ xs)
sum_front {X} f front [] = rw (append-nil front) (omega arith)
sum_front {X} f front (x ∷ xs) =
    let more = sum_front f (front ++ x ∷ []) xs in
    let push = sum_by_push f front x in
    subst (λ (ys : List X). sum_by f front ≤ sum_by f ys) (append_assoc front (x ∷ []) xs) (omega (arith, more, push))

pub sums_fit : {X : Type 0} (Fits : List X → X → Type 0) (P : X → Type 0) (f : X → ℕ) (limit : ℕ) → ((front : List X) (x : X) → P x → sum_by f front + f x ≤ limit → Fits front x) → (front xs : List X) → All P xs → sum_by f (front ++ xs) ≤ limit → AllAfter Fits front xs
sums_fit Fits P f limit made front [] each bound = tt
sums_fit {X} Fits P f limit made front (x ∷ xs) each bound =
    let whole : sum_by f ((front ++ x ∷ []) ++ xs) ≤ limit = subst (λ (ys : List X). sum_by f ys ≤ limit) (sym (append_assoc front (x ∷ []) xs)) bound in
    let here : sum_by f front + f x ≤ limit = omega (arith, sum_front f (front ++ x ∷ []) xs, sum_by_push f front x, whole) in
    (made front x (All-head P x xs each) here, sums_fit Fits P f limit made (front ++ x ∷ []) xs (All-tail P x xs each) whole)
