-- Two lists in one strict order, of which each has the elements of the other, or is as long and all before those it lacks,
-- are one list.
use Rattle.std.proofs.Common.{◌≡◌, ◌⊎◌, inl, inr, zero, suc, ◌≤◌, List, [], ◌∷◌, length, refl, sym, subst, arith}
use Rattle.std.specs.List.{All, AllPairs, Contains}
use Rattle.std.proofs.lemmas.List.Elements.{All-head, All-tail, All-contains}
use Rattle.drm_num.proofs.Lists.{pairs_of_first, pairs_of_rest}

-- an element is the first one, or a later one
first_or_later : {X : Type 0} (x y : X) (ys : List X) → Contains (y ∷ ys) x → (y ≡ x) ⊎ Contains ys x
first_or_later x y ys (zero, below, is) = inl is
first_or_later x y ys (suc k, below, is) = inr (k, omega arith, is)

module _ {X : Type 0} (R : X → X → Type 0) where
  -- of two different elements one comes before the other, and not the other before it
  pub record IsStrictOrder : Type 0 where
    pub one_way : (x y : X) → R x y → R y x → ⊥
    pub total : (x y : X) → R x y ⊎ ((x ≡ y) ⊎ R y x)

  -- each element of the first list is one of the second, or comes behind all of the second, which is as long
  abbrev pub Keeps : List X → List X → Type 0
  Keeps xs ys = (x : X) → Contains xs x → Contains ys x ⊎ ((length xs ≤ length ys) × All (λ y. R y x) ys)

  -- the first element does not come before that of the list that keeps it
  no_earlier : IsStrictOrder → (x y : X) (xs ys : List X) → AllPairs R (y ∷ ys) → Keeps (x ∷ xs) (y ∷ ys) → R x y → ⊥
  no_earlier order x y xs ys pairs keeps less = elim (keeps x (0, omega arith, refl)) [
    | inl has ↦ elim (first_or_later x y ys has) [
      | inl same ↦ let itself : R y y = subst (λ (z : X). R z y) (sym same) less in order.one_way y y itself itself
      | inr later ↦ order.one_way x y less (All-contains (R y) ys x (pairs_of_first R y ys pairs) later)
    ]
    | inr (long, behind) ↦ order.one_way x y less (All-head (λ (z : X). R z x) y ys behind)
  ]

  -- without the first element of both
  keeps_rest : IsStrictOrder → (x : X) (xs ys : List X) → AllPairs R (x ∷ xs) → Keeps (x ∷ xs) (x ∷ ys) → Keeps xs ys
  keeps_rest order x xs ys pairs keeps z (k, below, is) = elim (keeps z (suc k, omega arith, is)) [
    | inl has ↦ elim (first_or_later z x ys has) [
      | inl same ↦ let itself : R z z = subst (λ (y : X). R y z) same (All-contains (R x) xs z (pairs_of_first R x xs pairs) (k, below, is)) in absurd (order.one_way z z itself itself)
      | inr later ↦ inl later
    ]
    | inr (long, behind) ↦ inr (omega arith, All-tail (λ (y : X). R y z) x ys behind)
  ]

  -- what an empty list keeps is empty
  keeps_none : (y : X) (ys : List X) → Keeps (y ∷ ys) [] → ⊥
  keeps_none y ys keeps = elim (keeps y (0, omega arith, refl)) [
    | inl (k, below, is) ↦ absurd (omega arith)
    | inr (long, behind) ↦ absurd (omega arith)
  ]

  -- lists in order that keep each other are one
  pub kept_are_one : IsStrictOrder → (xs ys : List X) → AllPairs R xs → AllPairs R ys → Keeps xs ys → Keeps ys xs → xs ≡ ys
  kept_are_one order [] [] pairs others keeps back = refl
  kept_are_one order [] (y ∷ ys) pairs others keeps back = absurd (keeps_none y ys back)
  kept_are_one order (x ∷ xs) [] pairs others keeps back = absurd (keeps_none x xs keeps)
  kept_are_one order (x ∷ xs) (y ∷ ys) pairs others keeps back = elim (order.total x y) [
    | inl less ↦ absurd (no_earlier order x y xs ys others keeps less)
    | inr rest ↦ elim rest [
      | inl same ↦
          let here : Keeps (x ∷ xs) (x ∷ ys) = subst (λ (z : X). Keeps (x ∷ xs) (z ∷ ys)) (sym same) keeps in
          let there : Keeps (x ∷ ys) (x ∷ xs) = subst (λ (z : X). Keeps (z ∷ ys) (x ∷ xs)) (sym same) back in
          let after : AllPairs R (x ∷ ys) = subst (λ (z : X). AllPairs R (z ∷ ys)) (sym same) others in
          let tails = kept_are_one order xs ys (pairs_of_rest R x xs pairs) (pairs_of_rest R y ys others) (keeps_rest order x xs ys pairs here) (keeps_rest order x ys xs after there) in
          cc
      | inr more ↦ absurd (no_earlier order y x ys xs pairs back more)
    ]
  ]
