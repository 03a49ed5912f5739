-- Lines that are given replies from the last one on, each the last that is left of what its caller was told.
use Rattle.std.proofs.Common.{◌≡◌, ℕ, zero, suc, ◌<◌, inl, inr, true, eqb, List, [], ◌∷◌, ◌++◌, length, length-append, get_or, slice_get, refl, ap, sym, ◌∙◌, subst, arith, append_assoc, append-nil, Some}
use Rattle.std.specs.Prelude.{filter, zip, map, slice_set}
use Rattle.std.proofs.lemmas.Bool.{cases_eq, eq-eqb, ne_eqb}
use Rattle.std.proofs.lemmas.List.{nil_from_length}
use Rattle.std.proofs.lemmas.List.Elements.{filter-append}

-- the lines with the key
abbrev pub keyed : {X : Type 0} → (X → ℕ) → ℕ → List X → List X
keyed key c xs = filter (λ x. eqb (key x) c) xs

-- the pairs whose line has the key
abbrev pub keyed_pairs : {X Y : Type 0} → (X → ℕ) → ℕ → List (X × Y) → List (X × Y)
keyed_pairs key c ps = filter (λ p. eqb (key p.0) c) ps

-- of what was told, this is left, and the rest are replies to the lines with the key
pub record IsShared {X Y : Type 0} (key : X → ℕ) (c : ℕ) (lines : List X) (replies was now : List Y) : Type 0 where
  pub mine : List Y
  pub parts : was ≡ now ++ mine
  pub one_each : length mine ≡ length (keyed key c lines)
  pub same : keyed_pairs key c (zip lines replies) ≡ zip (keyed key c lines) mine

-- these last lines have replies, and of what each caller was told this is left
pub record AreShared {X Y : Type 0} (key : X → ℕ) (lines : List X) (told left : List (List Y)) (replies : List Y) : Type 0 where
  pub one_each : length replies ≡ length lines
  pub as_many : length left ≡ length told
  pub each : (c : ℕ) (was now : List Y) → slice_get told c ≡ Some was → slice_get left c ≡ Some now → IsShared key c lines replies was now

-- before the last line
pub shared_none : {X Y : Type 0} (key : X → ℕ) (told : List (List Y)) → AreShared key [] told told []
shared_none key told = record {
  one_each = refl;
  as_many = refl;
  each = λ c was now is_was is_now. record { mine = []; parts = let one : was ≡ now = cc in one ∙ sym (append-nil now); one_each = refl; same = refl };
}

-- one more line
pub shared_more : {X Y : Type 0} (key : X → ℕ) (line : X) (lines : List X) (told left after : List (List Y)) (replies : List Y) (reply : Y) (rest : List Y)
    → AreShared key lines told left replies
    → slice_get left (key line) ≡ Some (rest ++ reply ∷ []) → length after ≡ length left
    → slice_get after (key line) ≡ Some rest → ((c : ℕ) → ¬ (c ≡ key line) → slice_get after c ≡ slice_get left c)
    → AreShared key (line ∷ lines) told after (reply ∷ replies)
shared_more {X} {Y} key line lines told left after replies reply rest so_far last long popped others = record {
  one_each = ap suc so_far.one_each;
  as_many = long ∙ so_far.as_many;
  each = each;
}
  where
    each : (c : ℕ) (was now : List Y) → slice_get told c ≡ Some was → slice_get after c ≡ Some now → IsShared key c (line ∷ lines) (reply ∷ replies) was now
    each c was now is_was is_now =
        elim (cases_eq c (key line)) [
          | inl is ↦
              let its_last : slice_get left c ≡ Some (rest ++ reply ∷ []) = subst (λ (k : ℕ). slice_get left k ≡ Some (rest ++ reply ∷ [])) (sym is) last in
              let old = so_far.each c was (rest ++ reply ∷ []) is_was its_last in
              let its_rest : slice_get after c ≡ Some rest = subst (λ (k : ℕ). slice_get after k ≡ Some rest) (sym is) popped in
              let now_is : now ≡ rest = cc (is_now, its_rest) in
              let yes : eqb (key line) c ≡ true = eq-eqb (key line) c (sym is) in
              record {
                mine = reply ∷ old.mine;
                parts = old.parts ∙ (append_assoc rest (reply ∷ []) old.mine ∙ ap (λ (xs : List Y). xs ++ reply ∷ old.mine) (sym now_is));
                one_each = rw yes (ap suc old.one_each);
                same = rw yes (ap (λ (ps : List (X × Y)). (line, reply) ∷ ps) old.same);
              }
          | inr apart ↦
              let old = so_far.each c was now is_was (sym (others c apart) ∙ is_now) in
              let not_it = ne_eqb (key line) c (λ is. apart (sym is)) in
              record {
                mine = old.mine;
                parts = old.parts;
                one_each = rw not_it old.one_each;
                same = rw not_it old.same;
              }
        ]

-- where the lines that have no reply yet are these, the caller of the last of them has a reply left
pub last_is_left : {X Y : Type 0} (key : X → ℕ) (line : X) (before lines : List X) (replies was now : List Y)
    → IsShared key (key line) lines replies was now → length was ≡ length (keyed key (key line) ((before ++ line ∷ []) ++ lines)) → 0 < length now
last_is_left key line before lines replies was now shared long =
    let c = key line in
    let told = ap length shared.parts ∙ length-append now shared.mine in
    let all = ap length (filter-append (λ x. eqb (key x) c) (before ++ line ∷ []) lines) ∙ length-append (keyed key c (before ++ line ∷ [])) (keyed key c lines) in
    let front = ap length (filter-append (λ x. eqb (key x) c) before (line ∷ [])) ∙ length-append (keyed key c before) (keyed key c (line ∷ [])) in
    let one : length (keyed key c (line ∷ [])) ≡ 1 = rw (eq-eqb (key line) c refl) refl in
    let its = shared.one_each in
    omega (arith, told, all, front, one, its, long)

-- where all lines have replies, each caller's are what it was told
pub shared_all : {X Y : Type 0} (key : X → ℕ) (c : ℕ) (lines : List X) (replies was now : List Y)
    → IsShared key c lines replies was now → length was ≡ length (keyed key c lines) → keyed_pairs key c (zip lines replies) ≡ zip (keyed key c lines) was
shared_all {X} {Y} key c lines replies was now shared long =
    let told = ap length shared.parts ∙ length-append now shared.mine in
    let its = shared.one_each in
    let none : now ≡ [] = nil_from_length now (omega (arith, told, its, long)) in
    let all : was ≡ shared.mine = shared.parts ∙ ap (λ (xs : List Y). xs ++ shared.mine) none in
    shared.same ∙ ap (λ (xs : List Y). zip (keyed key c lines) xs) (sym all)

-- ---- rows

-- the row that was set
pub row_set : {X Y : Type 0} (f : X → Y) (xs : List X) (i : ℕ) (x : X) → i < length xs → slice_get (map f (slice_set xs i x)) i ≡ Some (f x)
row_set f [] i x below = absurd (omega arith)
row_set f (y ∷ xs) zero x below = refl
row_set f (y ∷ xs) (suc i) x below = row_set f xs i x (omega arith)

-- and the others
pub row_other : {X Y : Type 0} (f : X → Y) (xs : List X) (i c : ℕ) (x : X) → ¬ (c ≡ i) → slice_get (map f (slice_set xs i x)) c ≡ slice_get (map f xs) c
row_other f [] i c x apart = refl
row_other f (y ∷ xs) zero zero x apart = absurd (apart refl)
row_other f (y ∷ xs) zero (suc c) x apart = refl
row_other f (y ∷ xs) (suc i) zero x apart = refl
row_other f (y ∷ xs) (suc i) (suc c) x apart = row_other f xs i c x (λ same. apart (ap suc same))

-- a row as it stands
pub row_at : {X Y : Type 0} (f : X → Y) (xs : List X) (i : ℕ) (x : X) → i < length xs → x ≡ get_or xs i x → slice_get (map f xs) i ≡ Some (f x)
row_at f [] i x below is = absurd (omega arith)
row_at f (y ∷ xs) zero x below is = ap (λ z. Some (f z)) (sym is)
row_at f (y ∷ xs) (suc i) x below is = row_at f xs i x (omega arith) is
