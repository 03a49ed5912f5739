-- What slots hold after sets were put into them, and what the sets are that come of it.
use Rattle.std.proofs.Common.{◌≡◌, ◌⊎◌, inl, inr, ℕ, zero, suc, ◌+◌, ◌<◌, Bool, List, [], ◌∷◌, ◌++◌, length, set, take, drop, get_or, All, Option, Some, None, Result, Ok, IfOk, Vec, Global, map, refl, sym, ◌∙◌, ap, arith, append_assoc, append-nil}
use Rattle.std.specs.Prelude.{IfSome}
use Rattle.std.specs.List.{AllZip}
use Rattle.std.specs.Option.{IsSome, option_to_list}
use Rattle.std.proofs.Math.Seq.{take-append_seam}
use Rattle.std.proofs.lemmas.Bool.{cases_lt}
use Rattle.std.proofs.lemmas.List.{length-set, get_or_append_left, get_or_push, get_or-set_same, nil_from_length}
use Rattle.std.proofs.lemmas.List.Elements.{All-cons, All-contains, All-head, All-nil, All-pop, All-tail}
use Rattle.drm_outside.specs.declared.faults.Memory.{Memory}
use Rattle.drm_road.specs.Road.{Road}
use Rattle.drm_robot.specs.declared.Robot.{Robot}
use Rattle.drm_road.specs.Elements.{element_count}
use Rattle.drm_build.specs.declared.hands.Found.{Found}
use Rattle.drm_build.specs.Sets.{IsSetAt}
use Rattle.drm_build.specs.Found.{AreEmpty, ArePut, AreSlotsOf, IsFound}
use Rattle.drm_build.proofs.ListLemmas.{at_head, in_tail}
use Rattle.drm_build.proofs.ZipLemmas.{all_right, zip_oks}

-- a place holds what was stored there, or what it held before
stored : {A : Type 0} (xs : List A) (i k : ℕ) (x d : A) → ((get_or (set xs i x) k d ≡ x) × (k ≡ i)) ⊎ (get_or (set xs i x) k d ≡ get_or xs k d)
stored [] i k x d = inr refl
stored (y ∷ ys) zero zero x d = inl (refl, refl)
stored (y ∷ ys) zero (suc k) x d = inr refl
stored (y ∷ ys) (suc i) zero x d = inr refl
stored (y ∷ ys) (suc i) (suc k) x d = elim (stored ys i k x d) [
  | inl here ↦ inl (here.0, ap suc here.1)
  | inr there ↦ inr there
]

-- a slot that holds a set holds one after a store
still_filled : (slots : List (Option (List Bool))) (i k : ℕ) (held : List Bool) → IsSome (get_or slots k None) → IsSome (get_or (set slots i (Some held)) k None)
still_filled slots i k held has = elim (stored slots i k (Some held) None) [
  | inl here ↦ rw here.0 refl
  | inr there ↦ rw there has
]

-- nothing has been put yet
none_put : (slots : List (Option (List Bool))) → ArePut [] slots slots
none_put slots = record {
  one_each = refl;
  filled = All-nil (λ (found : Found). IsSome (get_or slots found.place None));
  each = λ place held is. inl is;
}

-- one more set is put
one_more_put : (done : List Found) (before slots : List (Option (List Bool))) (found : Found) → found.place < length slots → ArePut done before slots → ArePut (found ∷ done) before (set slots found.place (Some found.set))
one_more_put done before slots found inside put = record {
  one_each = length-set slots found.place (Some found.set) ∙ put.one_each;
  filled = All-cons (λ (one : Found). IsSome (get_or (set slots found.place (Some found.set)) one.place None)) found done
      (rw (get_or-set_same slots found.place (Some found.set) None inside) refl)
      (λ k d below. still_filled slots found.place (get_or done k d).place found.set (put.filled k d below));
  each = λ place held is. elim (stored slots found.place place (Some found.set) None) [
    | inl here ↦
        let same : found.set ≡ held = let now = here.0 in cc in
        inr (rw (here.1, sym same) (at_head found done))
    | inr there ↦ elim (put.each place held (sym there ∙ is)) [
      | inl was ↦ inl was
      | inr given ↦ inr (in_tail found done (record { place = place; set = held }) given)
    ]
  ];
}

-- some of the hand's sets were put, and there is a slot for each that is left
abbrev pub IsOnTheWay : (hand left : List Found) (before slots : List (Option (List Bool))) → Type 0
IsOnTheWay hand left before slots =
    (done : List Found) × (hand ≡ left ++ done) × All (λ found. found.place < length slots) left × ArePut done before slots

-- none was put yet
pub at_first : (hand : List Found) (slots : List (Option (List Bool))) → All (λ found. found.place < length slots) hand → IsOnTheWay hand hand slots slots
at_first hand slots inside = ([], sym (append-nil hand), inside, none_put slots)

-- there is a slot for the last of those that are left
pub last_fits : (hand left rest : List Found) (before slots : List (Option (List Bool))) (told : Option Found) (found : Found) → left ≡ rest ++ option_to_list told → told ≡ Some found → IsOnTheWay hand left before slots → found.place < length slots
last_fits hand left rest before slots told found items is (done, split, inside, put) =
    let both = All-pop (λ (one : Found). one.place < length slots) left rest told items inside in
    rw is at both.1

-- the last of those that are left is put
pub last_put : (hand left rest : List Found) (before slots : List (Option (List Bool))) (told : Option Found) (found : Found) → left ≡ rest ++ option_to_list told → told ≡ Some found → IsOnTheWay hand left before slots → IsOnTheWay hand rest before (set slots found.place (Some found.set))
last_put hand left rest before slots told found items is (done, split, inside, put) =
    let both = All-pop (λ (one : Found). one.place < length slots) left rest told items inside in
    let last : left ≡ rest ++ found ∷ [] = items ∙ ap (λ (o : Option Found). rest ++ option_to_list o) is in (
      found ∷ done,
      split ∙ (ap (λ (xs : List Found). xs ++ done) last ∙ append_assoc rest (found ∷ []) done),
      (λ k d below. rw (length-set slots found.place (Some found.set)) (both.0 k d below)),
      one_more_put done before slots found (last_fits hand left rest before slots told found items is (done, split, inside, put)) put,
    )

-- all were put
pub at_last : (hand left : List Found) (before slots : List (Option (List Bool))) → length left ≡ 0 → IsOnTheWay hand left before slots → ArePut hand before slots
at_last hand left before slots none (done, split, inside, put) =
    let all : hand ≡ done = split ∙ ap (λ (xs : List Found). xs ++ done) (nil_from_length left none) in
    rw all put

-- what is said of a slot's set holds of it
if_held : (slot : Option (List Bool)) (P : List Bool → Type 0) → ((held : List Bool) → slot ≡ Some held → P held) → IfSome slot P
if_held None P so = tt
if_held (Some held) P so = so held refl

held_has : (slot : Option (List Bool)) (P : List Bool → Type 0) (held : List Bool) → IfSome slot P → slot ≡ Some held → P held
held_has slot P held has is = rw is at has

-- slots stay right where what is put into them is right
pub right_after : (robot : Robot) (road : Road) (hand : List Found) (before after : List (Option (List Bool))) → All (IsFound robot road) hand → AreSlotsOf robot road before → ArePut hand before after → AreSlotsOf robot road after
right_after robot road hand before after right slots put = record {
  one_each = put.one_each ∙ slots.one_each;
  each = λ place. if_held (get_or after place None) (IsSetAt robot road place) (λ held is. elim (put.each place held is) [
    | inl was ↦ held_has (get_or before place None) (IsSetAt robot road place) held (slots.each place) was
    | inr given ↦ (All-contains (IsFound robot road) hand (record { place = place; set = held }) right given).set
  ]);
}

-- slots stay right where one is emptied
pub right_without : (robot : Robot) (road : Road) (slots : List (Option (List Bool))) (i : ℕ) → AreSlotsOf robot road slots → AreSlotsOf robot road (set slots i None)
right_without robot road slots i right = record {
  one_each = length-set slots i None ∙ right.one_each;
  each = λ place. if_held (get_or (set slots i None) place None) (IsSetAt robot road place) (λ held is. elim (stored slots i place None None) [
    | inl here ↦ let now = here.0 in absurd (cc)
    | inr there ↦ held_has (get_or slots place None) (IsSetAt robot road place) held (right.each place) (sym there ∙ is)
  ]);
}

-- empty slots hold nothing that is wrong
pub right_empty : (robot : Robot) (road : Road) (count : ℕ) (slots : List (Option (List Bool))) → count ≡ element_count road → AreEmpty count slots → AreSlotsOf robot road slots
right_empty robot road count slots is empty = record {
  one_each = empty.one_each ∙ is;
  each = λ place. rw (none_held slots place empty.each) tt;
}
  where
    none_held : (slots : List (Option (List Bool))) (place : ℕ) → All (λ slot. slot ≡ None) slots → get_or slots place None ≡ None
    none_held [] place all = refl
    none_held (x ∷ xs) zero all = All-head (λ slot. slot ≡ None) x xs all
    none_held (x ∷ xs) (suc place) all = none_held xs place (All-tail (λ slot. slot ≡ None) x xs all)

-- one more set stands in order
pub one_more : (robot : Robot) (road : Road) (sets : List (List Bool)) (place : ℕ) (held : List Bool) → length sets ≡ place → ((k : ℕ) → k < place → IsSetAt robot road k (get_or sets k [])) → IsSetAt robot road place held → (k : ℕ) → k < place + 1 → IsSetAt robot road k (get_or (sets ++ held ∷ []) k [])
one_more robot road sets place held size before here k below = elim (cases_lt k place) [
  | inl less ↦ rw (get_or_append_left sets (held ∷ []) [] k (omega (arith, size, less))) (before k less)
  | inr more ↦
      let last : k ≡ place = omega arith in
      rw (last, get_or_push sets held [] place size) here
]

-- what is written back through a slice of all is that slice
pub written_back : {A : Type 0} (xs ys : List A) (n : ℕ) → length xs ≡ length ys → n ≡ length ys → take n (xs ++ drop (length xs) ys) ≡ xs
written_back xs ys n same is =
    let all : n ≡ length xs = omega (arith, same, is) in
    rw all (take-append_seam xs (drop (length xs) ys))

-- each hand's finds are right where each hand has some
pub all_hands : (robot : Robot) (road : Road) (turns : List ℕ) (hands : List (Vec Found Global)) → AllZip (λ (_ : ℕ) (r : Result (Vec Found Global) Memory). IfOk r (λ hand. All (IsFound robot road) hand.items)) turns (map Ok hands) → All (λ hand. All (IsFound robot road) hand.items) hands
all_hands robot road turns hands all =
    let Right = (λ (hand : Vec Found Global). All (IsFound robot road) hand.items) in
    all_right Right turns hands (zip_oks Memory (λ (_ : ℕ) (hand : Vec Found Global). Right hand) turns hands all)
