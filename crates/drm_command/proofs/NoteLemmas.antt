-- Notes that are taken part by part.
use Rattle.std.proofs.Common.{◌≡◌, ℕ, ◌+◌, ◌≤◌, ◌<◌, List, [], ◌∷◌, ◌++◌, length, take, drop, get_or, flat_map, Option, refl, sym, ap, ◌∙◌, subst, arith, append-nil, length-append, append_assoc}
use Rattle.std.specs.Io.KnownBytes.{Appends}
use Rattle.std.proofs.KnownBytes.{Appends-trans}
use Rattle.std.proofs.Math.Seq.{take-append-add}
use Rattle.std.proofs.lemmas.List.{take_more, take-append-drop, take-append-le}
use Rattle.std.proofs.lemmas.List.Concat.{flat_map-append}
use Rattle.drm_outside.specs.Causes.{Rose}
use Rattle.drm_outside.specs.Writing.{AppendsPrefix}

-- the parts before one of them, and that one
flat_more : {X : Type 0} (f : X → List ℕ) (xs : List X) (i : ℕ) (d : X) → i < length xs → flat_map f (take (i + 1) xs) ≡ flat_map f (take i xs) ++ f (get_or xs i d)
flat_more f xs i d below =
    ap (flat_map f) (take_more xs i d below) ∙ flat_map-append f (take i xs) (get_or xs i d ∷ [])
    ∙ ap (λ (t : List ℕ). flat_map f (take i xs) ++ t) (append-nil (f (get_or xs i d)))

-- one more part was taken
pub taken_more : {X : Type 0} (f : X → List ℕ) (xs : List X) (i : ℕ) (d : X) (a b c : Option (List ℕ)) → i < length xs → Appends a b (flat_map f (take i xs)) → Appends b c (f (get_or xs i d)) → Appends a c (flat_map f (take (i + 1) xs))
taken_more f xs i d a b c below before now = subst (Appends a c) (sym (flat_more f xs i d below)) (Appends-trans a b c _ _ before now)

-- a prefix behind what was taken whole, and a prefix of more
prefix_behind : (a b c : Option (List ℕ)) (xs ys : List ℕ) → Appends a b xs → AppendsPrefix b c ys → AppendsPrefix a c (xs ++ ys)
prefix_behind a b c xs ys before (n, within, now) =
    (length xs + n, omega (arith, within, length-append xs ys), subst (Appends a c) (sym (take-append-add xs ys n)) (Appends-trans a b c xs (take n ys) before now))

prefix_more : (a b : Option (List ℕ)) (xs ys : List ℕ) → AppendsPrefix a b xs → AppendsPrefix a b (xs ++ ys)
prefix_more a b xs ys (n, within, now) = (n, omega (arith, within, length-append xs ys), subst (Appends a b) (sym (take-append-le n xs ys within)) now)

-- a part was taken in part
pub taken_short : {X : Type 0} (f : X → List ℕ) (xs : List X) (i : ℕ) (d : X) (a b c : Option (List ℕ)) → i < length xs → Appends a b (flat_map f (take i xs)) → AppendsPrefix b c (f (get_or xs i d)) → AppendsPrefix a c (flat_map f xs)
taken_short f xs i d a b c below before now =
    let front = subst (AppendsPrefix a c) (sym (flat_more f xs i d below)) (prefix_behind a b c _ _ before now) in
    let whole = sym (flat_map-append f (take (i + 1) xs) (drop (i + 1) xs)) ∙ ap (flat_map f) (take-append-drop (i + 1) xs) in
    subst (AppendsPrefix a c) whole (prefix_more a c _ (flat_map f (drop (i + 1) xs)) front)

-- a count that rose behind one that it was no smaller than has risen since that
pub rose_since : (first before now : ℕ) → first ≤ before → Rose before now → Rose first now
rose_since first before now later rose = omega (arith, later, rose)

-- ---- texts in parts

-- two parts that are one
pub joined : (what about whole more : List ℕ) → what ++ about ≡ whole → what ++ (about ++ more) ≡ whole ++ more
joined what about whole more is = sym (append_assoc what about more) ∙ ap (λ (t : List ℕ). t ++ more) is
