-- One node more among those that were looked at.
use Rattle.std.proofs.Common.{◌≡◌, ◌≢◌, ◌⊎◌, inl, inr, ℕ, zero, suc, ◌<◌, ◌≤◌, ℤ, true, false, not, cond, nat_eq, List, [], length, min, Some, refl, ap, sym, ◌∙◌, subst, arith}
use Rattle.std.specs.List.{slice_get, insert}
use Rattle.std.proofs.lemmas.Bool.Decides.{nat_tests}
use Rattle.std.proofs.lemmas.List.{length-take}
use Rattle.std.proofs.lemmas.Option.{slice_get_within}
use Rattle.drm_road.specs.declared.pairing.Place.{Place}
use Rattle.drm_road.specs.Pairs.{gap, comes_before, rank, IsNear}
use Rattle.drm_road.specs.Nearest.{AreNearest, IsByDistance, Offers, others_among}
use Rattle.drm_road.proofs.ListLemmas.{slice_get_there, slice_get-take, slice_get-in_take, inserted, insert_there, insert_before, insert_behind, length-insert_within}
use Rattle.drm_road.proofs.RankLemmas.{count_more, count_monotone, count_strict, before_is, before_means, not_before}

rank_grows : (nodes : List (List ℤ)) (i j k : ℕ) → comes_before nodes i j k ≡ true → rank nodes i (suc j) k ≡ suc (rank nodes i j k)
rank_grows nodes i j k is =
    let one : cond {A = ℕ} (comes_before nodes i j k) 1 0 ≡ 1 = rw is refl in
    omega (arith, count_more (λ m. comes_before nodes i m k) j, one)

rank_stays : (nodes : List (List ℤ)) (i j k : ℕ) → comes_before nodes i j k ≡ false → rank nodes i (suc j) k ≡ rank nodes i j k
rank_stays nodes i j k is =
    let none : cond {A = ℕ} (comes_before nodes i j k) 1 0 ≡ 0 = rw is refl in
    omega (arith, count_more (λ m. comes_before nodes i m k) j, none)

rank_kept : (nodes : List (List ℤ)) (i j k : ℕ) → rank nodes i j k ≤ rank nodes i (suc j) k
rank_kept nodes i j k = omega (arith, count_more (λ m. comes_before nodes i m k) j)

-- the node that is looked at has the greatest number so far
ahead : (nodes : List (List ℤ)) (i j k : ℕ) → j ≢ i → gap nodes i j < gap nodes i k → rank nodes i (suc j) k ≡ suc (rank nodes i j k)
ahead nodes i j k other nearer = rank_grows nodes i j k (before_is nodes i j k other (inl nearer))

behind : (nodes : List (List ℤ)) (i j k : ℕ) → k ≤ j → gap nodes i k ≤ gap nodes i j → rank nodes i (suc j) k ≡ rank nodes i j k
behind nodes i j k below no_nearer = rank_stays nodes i j k (not_before nodes i j k (λ h. elim h.1 [ inl nearer ↦ absurd (omega arith) | inr same ↦ let after = same.1 in absurd (omega arith) ]))

-- what comes before a node that is no further comes before the node that is looked at
passes_on : (nodes : List (List ℤ)) (i j k m : ℕ) → m < j → gap nodes i k ≤ gap nodes i j → comes_before nodes i m k ≡ true → comes_before nodes i m j ≡ true
passes_on nodes i j k m below no_further h =
    let means = before_means nodes i m k h in
    before_is nodes i m j means.0 (order (gap nodes i m) (gap nodes i k) (gap nodes i j) m k j means.1 no_further below)
  where
    order : (g h l m k j : ℕ) → ((g < h) ⊎ ((g ≡ h) × (m < k))) → h ≤ l → m < j → (g < l) ⊎ ((g ≡ l) × (m < j))
    order g h l m k j why far below = grind arith

passes_back : (nodes : List (List ℤ)) (i j k m : ℕ) → gap nodes i j < gap nodes i k → comes_before nodes i m j ≡ true → comes_before nodes i m k ≡ true
passes_back nodes i j k m nearer h =
    let means = before_means nodes i m j h in
    before_is nodes i m k means.0 (inl (order (gap nodes i m) (gap nodes i j) (gap nodes i k) m j means.1 nearer))
  where
    order : (g h l m j : ℕ) → ((g < h) ⊎ ((g ≡ h) × (m < j))) → h < l → g < l
    order g h l m j why far = grind arith

-- the nodes before the place at which it is put come before it
lower : (nodes : List (List ℤ)) (near i : ℕ) (best : List Place) (place : Place) (at : ℕ) → place.far ≡ gap nodes i place.node → AreNearest nodes near i place.node best → at ≤ length best
    → ((p : ℕ) (e : Place) → p < at → slice_get best p ≡ Some e → e.far ≤ place.far) → at ≤ rank nodes i place.node place.node
lower nodes near i best place zero is h within below = omega arith
lower nodes near i best place (suc a) is h within below =
    let there = slice_get_there best a (omega arith) in
    let e = there.0 in
    let facts = h.placed a e there.1 in
    let j = place.node in
    let under : e.node < j = facts.0 in
    let no_further : gap nodes i e.node ≤ gap nodes i j = along (below a e (omega arith) there.1) facts.2 is in
    let counted = count_strict (λ m. comes_before nodes i m e.node) (λ m. comes_before nodes i m j) j e.node
    (λ m lower_m. passes_on nodes i j e.node m lower_m no_further) under
    (not_before nodes i e.node e.node (λ k. elim k.1 [ inl less ↦ absurd (omega arith) | inr same ↦ let less = same.1 in absurd (omega arith) ]))
    (before_is nodes i e.node j facts.1 (order (gap nodes i e.node) (gap nodes i j) e.node j no_further under)) in
    let ranked : rank nodes i j e.node ≡ a = facts.3 in
    omega (arith, counted, ranked)
  where
    along : {a b c d : ℕ} → a ≤ b → a ≡ c → b ≡ d → c ≤ d
    along le x y = omega arith

    order : (g h k j : ℕ) → g ≤ h → k < j → (g < h) ⊎ ((g ≡ h) × (k < j))
    order g h k j le below = grind arith

-- no others do, where it is kept
upper : (nodes : List (List ℤ)) (near i : ℕ) (best : List Place) (place : Place) (at : ℕ) → place.far ≡ gap nodes i place.node → AreNearest nodes near i place.node best → at ≤ length best → at < near
    → ((p : ℕ) (e : Place) → at ≤ p → slice_get best p ≡ Some e → place.far < e.far) → rank nodes i place.node place.node ≤ at
upper nodes near i best place at is h within kept above = elim (inside at (length best) within) [
  | inl below ↦
      let there = slice_get_there best at below in
      let e = there.0 in
      let facts = h.placed at e there.1 in
      let nearer : gap nodes i place.node < gap nodes i e.node = along (above at e (omega arith) there.1) is facts.2 in
      let counted = count_monotone (λ m. comes_before nodes i m place.node) (λ m. comes_before nodes i m e.node) place.node (λ m lower_m. passes_back nodes i place.node e.node m nearer) in
      let ranked : rank nodes i place.node e.node ≡ at = facts.3 in
      omega (arith, counted, ranked)
  | inr end ↦ elim h.full [
    | inl full ↦ absurd (omega arith)
    | inr all ↦
        let counted = count_monotone (λ m. comes_before nodes i m place.node) (λ m. not (nat_eq m i)) place.node (λ m lower_m passes. differs m i (before_means nodes i m place.node passes).0) in
        omega (arith, counted, all, end)
  ]
]
  where
    inside : (at n : ℕ) → at ≤ n → (at < n) ⊎ (at ≡ n)
    inside at n within = grind arith

    along : {a b c d : ℕ} → a < b → a ≡ c → b ≡ d → c < d
    along lt x y = omega arith

    differs : (m i : ℕ) → m ≢ i → not (nat_eq m i) ≡ true
    differs m i other = grind (arith, nat_tests)

others_grow : (i j : ℕ) → j ≢ i → others_among i (suc j) ≡ suc (others_among i j)
others_grow i j other =
    let one : cond {A = ℕ} (not (nat_eq j i)) 1 0 ≡ 1 = counts j i other in
    omega (arith, count_more (λ k. not (nat_eq k i)) j, one)
  where
    counts : (j i : ℕ) → j ≢ i → cond {A = ℕ} (not (nat_eq j i)) 1 0 ≡ 1
    counts j i other = grind (arith, nat_tests)

others_stay : (i : ℕ) → others_among i (suc i) ≡ others_among i i
others_stay i =
    let none : cond {A = ℕ} (not (nat_eq i i)) 1 0 ≡ 0 = counts i in
    omega (arith, count_more (λ k. not (nat_eq k i)) i, none)
  where
    counts : (i : ℕ) → cond {A = ℕ} (not (nat_eq i i)) 1 0 ≡ 0
    counts i = grind (arith, nat_tests)

-- nothing is near among no nodes
pub nearest_none : (nodes : List (List ℤ)) (near i : ℕ) → AreNearest nodes near i 0 []
nearest_none nodes near i = record {
  few = omega arith;
  placed = λ p place is. cc;
  others = λ k below other. absurd (omega arith);
  full = inr refl;
}

-- the node itself is passed over
pub nearest_itself : (nodes : List (List ℤ)) (near i : ℕ) (best : List Place) → AreNearest nodes near i i best → AreNearest nodes near i (suc i) best
nearest_itself nodes near i best h = record {
  few = h.few;
  placed = λ p place is. let facts = h.placed p place is in let below = facts.0 in (omega arith, facts.1, facts.2, rank_stays nodes i i place.node (itself place.node) ∙ facts.3);
  others = λ k below other. elim (h.others k (less k i below other) other) [
    | inl found ↦ inl found
    | inr many ↦ inr (omega (arith, many, rank_kept nodes i i k))
  ];
  full = elim h.full [ inl full ↦ inl full | inr all ↦ inr (all ∙ sym (others_stay i)) ];
}
  where
    itself : (k : ℕ) → comes_before nodes i i k ≡ false
    itself k = not_before nodes i i k (λ x. x.0 refl)

    less : (k i : ℕ) → k < suc i → k ≢ i → k < i
    less k i below other = grind arith

-- one node more
pub nearest_more : (nodes : List (List ℤ)) (near i : ℕ) (best : List Place) (place : Place) (next : List Place) → place.node ≢ i → place.far ≡ gap nodes i place.node → AreNearest nodes near i place.node best → Offers near best place next → AreNearest nodes near i (suc place.node) next
nearest_more nodes near i best place next apart is h put =
    let j = place.node in
    let all = insert best put.at place in
    let in_all : (p : ℕ) (e : Place) → slice_get next p ≡ Some e → (p < near) × (slice_get all p ≡ Some e) = λ p e there. slice_get-take near all p e (subst (λ (xs : List Place). slice_get xs p ≡ Some e) put.is there) in
    let in_next : (p : ℕ) (e : Place) → p < near → slice_get all p ≡ Some e → slice_get next p ≡ Some e = λ p e below there. subst (λ (xs : List Place). slice_get xs p ≡ Some e) (sym put.is) (slice_get-in_take near all p e below there) in
    let low = lower nodes near i best place put.at is h put.within put.below in
    let own : rank nodes i (suc j) j ≡ rank nodes i j j = behind nodes i j j (omega arith) (omega arith) in
    let front : (p : ℕ) (e : Place) → p < put.at → slice_get best p ≡ Some e → rank nodes i (suc j) e.node ≡ p =
    λ p e below there. let facts = h.placed p e there in let under = facts.0 in behind nodes i j e.node (omega arith) (along (put.below p e below there) facts.2 is) ∙ facts.3 in
    let back : (q : ℕ) (e : Place) → put.at ≤ q → slice_get best q ≡ Some e → rank nodes i (suc j) e.node ≡ suc q =
    λ q e above there. let facts = h.placed q e there in ahead nodes i j e.node apart (along_strict (put.above q e above there) is facts.2) ∙ ap suc facts.3 in
    record {
      few = let counted = length-take near all in let same = ap length put.is in omega arith;
      placed = λ p e there.
          let found = in_all p e there in
          let kept : p < near = found.0 in
          elim (inserted best put.at place p e put.within found.1) [
            | inl old ↦ let facts = h.placed p e old.1 in let under = facts.0 in (omega arith, facts.1, facts.2, front p e old.0 old.1)
            | inr rest ↦ elim rest [
              | inl new ↦
                  let here = new.0 in
                  let high = upper nodes near i best place put.at is h put.within (omega arith) put.above in
                  let ranked : rank nodes i (suc j) j ≡ p = omega arith in
                  rw new.1 (omega arith, apart, is, ranked)
              | inr old ↦ let facts = h.placed old.0 e old.3 in let under = facts.0 in (omega arith, facts.1, facts.2, back old.0 e old.2 old.3 ∙ sym old.1)
            ]
          ];
      others = λ k below other.
          elim (split k j below) [
            | inl less ↦ elim (h.others k less other) [
              | inl found ↦
                  let q = found.0 in
                  let e = found.1 in
                  let inside = slice_get_within best q e found.2 in
                  elim (against q put.at) [
                    | inl before ↦ inl (q, e, in_next q e (let few = h.few in omega arith) (insert_before best put.at place q e before found.2), found.3)
                    | inr behind_it ↦ elim (against (suc q) near) [
                      | inl kept ↦ inl (suc q, e, in_next (suc q) e kept (insert_behind best put.at place q e behind_it found.2), found.3)
                      | inr dropped ↦ let ranked = back q e behind_it found.2 in inr (subst (λ (m : ℕ). near ≤ rank nodes i (suc j) m) found.3 (omega arith))
                    ]
                  ]
              | inr many ↦ inr (omega (arith, many, rank_kept nodes i j k))
            ]
            | inr same ↦ elim (against put.at near) [
              | inl kept ↦ inl (put.at, place, in_next put.at place kept (insert_there best put.at place put.within), sym same)
              | inr dropped ↦ inr (subst (λ (m : ℕ). near ≤ rank nodes i (suc j) m) (sym same) (omega arith))
            ]
          ];
      full =
          let counted = length-take near all in
          let same = ap length put.is in
          let longer = length-insert_within best put.at place put.within in
          let more = others_grow i j apart in
          let few = h.few in
          elim h.full [
            | inl full ↦ inl (filled near (length best) (length all) (length next) same counted longer full)
            | inr each ↦ elim (against (length best) near) [
              | inl room ↦ inr (grown near (length best) (length all) (length next) (others_among i j) (others_among i (suc j)) same counted longer each more room)
              | inr none ↦ inl (filled near (length best) (length all) (length next) same counted longer (omega arith))
            ]
          ];
    }
  where
    along : {a b c d : ℕ} → a ≤ b → a ≡ c → b ≡ d → c ≤ d
    along le x y = omega arith

    along_strict : {a b c d : ℕ} → a < b → a ≡ c → b ≡ d → c < d
    along_strict lt x y = omega arith

    split : (k j : ℕ) → k < suc j → (k < j) ⊎ (k ≡ j)
    split k j below = grind arith

    against : (a b : ℕ) → (a < b) ⊎ (b ≤ a)
    against a b = grind arith

    filled : (near b a n : ℕ) {t : ℕ} → n ≡ t → t ≡ min near a → a ≡ suc b → b ≡ near → n ≡ near
    filled near b a n same counted longer full = omega arith

    grown : (near b a n o m : ℕ) {t : ℕ} → n ≡ t → t ≡ min near a → a ≡ suc b → b ≡ o → m ≡ suc o → b < near → n ≡ m
    grown near b a n o m same counted longer each more room = omega arith

-- the nearer stand before those further away
pub nearest_sorted : (nodes : List (List ℤ)) (near i count : ℕ) (best : List Place) → AreNearest nodes near i count best → IsByDistance best
nearest_sorted nodes near i count best h p q e f before at_p at_q =
    let first = h.placed p e at_p in
    let second = h.placed q f at_q in
    elim (against e.far f.far) [
      | inl fine ↦ fine
      | inr wrong ↦
          let nearer : gap nodes i f.node < gap nodes i e.node = along_strict wrong second.2 first.2 in
          let counted = count_strict (λ m. comes_before nodes i m f.node) (λ m. comes_before nodes i m e.node) count f.node
          (λ m below passes. passes_back nodes i f.node e.node m nearer passes) second.0
          (not_before nodes i f.node f.node (λ k. elim k.1 [ inl less ↦ absurd (omega arith) | inr same ↦ let less = same.1 in absurd (omega arith) ]))
          (before_is nodes i f.node e.node second.1 (inl nearer)) in
          let rank_p : rank nodes i count e.node ≡ p = first.3 in
          let rank_q : rank nodes i count f.node ≡ q = second.3 in
          absurd (omega arith)
    ]
  where
    along_strict : {a b c d : ℕ} → a < b → a ≡ c → b ≡ d → c < d
    along_strict lt x y = omega arith

    against : (a b : ℕ) → (a ≤ b) ⊎ (b < a)
    against a b = grind arith

-- among all nodes, those that were found are the near ones
pub found_is_near : (nodes : List (List ℤ)) (near i : ℕ) (best : List Place) → AreNearest nodes near i (length nodes) best → (p : ℕ) (e : Place) → slice_get best p ≡ Some e → (e.node < length nodes) × IsNear nodes near i e.node
found_is_near nodes near i best h p e there =
    let facts = h.placed p e there in
    let inside = slice_get_within best p e there in
    let few = h.few in
    let ranked : rank nodes i (length nodes) e.node ≡ p = facts.3 in
    (facts.0, record { other = facts.1; few = omega arith })

pub near_is_found : (nodes : List (List ℤ)) (near i : ℕ) (best : List Place) → AreNearest nodes near i (length nodes) best → (j : ℕ) → j < length nodes → IsNear nodes near i j → (p : ℕ) × (e : Place) × (slice_get best p ≡ Some e) × (e.node ≡ j)
near_is_found nodes near i best h j below is = elim (h.others j below is.other) [
  | inl found ↦ found
  | inr many ↦ let few = is.few in absurd (omega arith)
]
