-- One more node among those that were looked at.
use Rattle.std.proofs.Common.{◌≡◌, ◌⊎◌, inl, inr, ℕ, ◌+◌, ◌-◌, ◌<◌, ◌≤◌, ℤ, List, length, take, get_or, subst, sym, ◌∙◌, arith}
use Rattle.std.specs.List.{insert, All, AllPairs, Contains}
use Rattle.std.proofs.lemmas.List.{length-take, get_or-take, get_or_default}
use Rattle.std.proofs.lemmas.List.Edits.{length-insert, get_or-insert_below, get_or-insert_at, get_or-insert_above}
use Rattle.drm_road.specs.Road.{Road}
use Rattle.drm_attach.specs.Candidates.{gap, ComesBefore, AreFirst, IsByDistance}

-- a place of a list into which one was put: before it, its own, or behind it
places : (p k : ℕ) → (k < p) ⊎ ((k ≡ p) ⊎ ((m : ℕ) × (k ≡ m + 1) × (p ≤ m)))
places p k = elim (order p k) [
  | inl before ↦ inl before
  | inr rest ↦ elim rest [
    | inl at ↦ inr (inl at)
    | inr behind ↦ inr (inr (k - 1, omega arith, omega arith))
  ]
]
  where
    order : (p k : ℕ) → (k < p) ⊎ ((k ≡ p) ⊎ (p < k))
    order p k = grind arith

-- what holds of each element of a list and of one more holds where that is put into the list
insert_all : {X : Type 0} (P : X → Type 0) (xs : List X) (p : ℕ) (y : X) → p ≤ length xs → All P xs → P y → All P (insert xs p y)
insert_all P xs p y within all here k d inside =
    let long = length-insert xs p y within in
    elim (places p k) [
      | inl before ↦ subst P (sym (get_or-insert_below xs p y d k before within)) (all k d (omega arith))
      | inr rest ↦ elim rest [
        | inl at ↦ rw (at, get_or-insert_at xs p y d within) here
        | inr (m, is, from) ↦ rw (is, get_or-insert_above xs p y d m from within) (all m d (omega (arith, long, is, inside)))
      ]
    ]

-- the pairs of a list stay, and the new one stands to those before it and behind it as it should
insert_pairs : {X : Type 0} (R : X → X → Type 0) (xs : List X) (p : ℕ) (y : X) → p ≤ length xs → AllPairs R xs
    → ((k : ℕ) (d : X) → k < p → R (get_or xs k d) y) → ((k : ℕ) (d : X) → p ≤ k → k < length xs → R y (get_or xs k d)) → AllPairs R (insert xs p y)
insert_pairs R xs p y within pairs before behind i j d ordered inside =
    let long = length-insert xs p y within in
    let low : (k : ℕ) → k < p → get_or (insert xs p y) k d ≡ get_or xs k d = λ k lt. get_or-insert_below xs p y d k lt within in
    let high : (k : ℕ) → p ≤ k → get_or (insert xs p y) (k + 1) d ≡ get_or xs k d = λ k from. get_or-insert_above xs p y d k from within in
    let own : get_or (insert xs p y) p d ≡ y = get_or-insert_at xs p y d within in
    elim (places p i) [
      | inl i_low ↦ elim (places p j) [
        | inl j_low ↦ rw (low i i_low, low j j_low) (pairs i j d ordered (omega arith))
        | inr rest ↦ elim rest [
          | inl j_at ↦ rw (low i i_low, j_at, own) (before i d i_low)
          | inr (m, is, from) ↦ rw (low i i_low, is, high m from) (pairs i m d (omega arith) (omega (arith, long, is, inside)))
        ]
      ]
      | inr rest_i ↦ elim rest_i [
        | inl i_at ↦ elim (places p j) [
          | inl j_low ↦ absurd (omega arith)
          | inr rest ↦ elim rest [
            | inl j_at ↦ absurd (omega arith)
            | inr (m, is, from) ↦ rw (i_at, own, is, high m from) (behind m d from (omega (arith, long, is, inside)))
          ]
        ]
        | inr (n, n_is, n_from) ↦ elim (places p j) [
          | inl j_low ↦ absurd (omega (arith, ordered, n_is, n_from))
          | inr rest ↦ elim rest [
            | inl j_at ↦ absurd (omega (arith, ordered, n_is, n_from))
            | inr (m, is, from) ↦ rw (n_is, high n n_from, is, high m from) (pairs n m d (omega (arith, ordered, n_is, is)) (omega (arith, long, is, inside)))
          ]
        ]
      ]
    ]

-- a list into which one was put contains what it contained, and the new one
insert_contains : {X : Type 0} (xs : List X) (p : ℕ) (y x : X) → p ≤ length xs → Contains xs x → Contains (insert xs p y) x
insert_contains xs p y x within (k, inside, is) =
    let long = length-insert xs p y within in
    elim (against k p) [
      | inl before ↦ (k, omega arith, get_or-insert_below xs p y x k before within ∙ is)
      | inr behind ↦ (k + 1, omega arith, get_or-insert_above xs p y x k behind within ∙ is)
    ]
  where
    against : (k p : ℕ) → (k < p) ⊎ (p ≤ k)
    against k p = grind arith

-- the front of a list
take_all : {X : Type 0} (P : X → Type 0) (xs : List X) (n : ℕ) → All P xs → All P (take n xs)
take_all P xs n all k d inside =
    let long = length-take n xs in
    rw (get_or-take n xs k d (omega arith)) (all k d (omega arith))

take_pairs : {X : Type 0} (R : X → X → Type 0) (xs : List X) (n : ℕ) → AllPairs R xs → AllPairs R (take n xs)
take_pairs R xs n pairs i j d ordered inside =
    let long = length-take n xs in
    rw (get_or-take n xs i d (omega arith), get_or-take n xs j d (omega arith)) (pairs i j d ordered (omega arith))

-- a node that is nearer comes before one that the other comes before
comes_through : (road : Road) (at : List ℤ) (i j k : ℕ) → gap road at i < gap road at j → ComesBefore road at j k → ComesBefore road at i k
comes_through road at i j k nearer before = inl (through (gap road at i) (gap road at j) (gap road at k) j k nearer before)
  where
    through : (g h l j k : ℕ) → g < h → ((h < l) ⊎ ((h ≡ l) × (j < k))) → g < l
    through g h l j k nearer before = grind arith

-- nodes that come one after another are in the order of their distances
pub by_distance : (road : Road) (at : List ℤ) (nodes : List ℕ) → AllPairs (ComesBefore road at) nodes → IsByDistance road at nodes
by_distance road at nodes pairs i j d ordered inside = no_less (gap road at (get_or nodes i d)) (gap road at (get_or nodes j d)) (get_or nodes i d) (get_or nodes j d) (pairs i j d ordered inside)
  where
    no_less : (g h i j : ℕ) → ((g < h) ⊎ ((g ≡ h) × (i < j))) → g ≤ h
    no_less g h i j before = grind arith

module _ (road : Road) (at : List ℤ) (j : ℕ) (nodes : List ℕ) (p : ℕ) where
  -- the nodes before place p are no further than node j, and those from it on are further
  pub record Stands : Type 0 where
    pub within : p ≤ length nodes
    pub near : (k d : ℕ) → k < p → gap road at (get_or nodes k d) ≤ gap road at j
    pub further : (k d : ℕ) → p ≤ k → k < length nodes → gap road at j < gap road at (get_or nodes k d)

  -- where the list and the distance have other names
  pub stands : (xs : List ℕ) (far : ℕ) → xs ≡ nodes → far ≡ gap road at j → p ≤ length xs → ((k d : ℕ) → k < p → gap road at (get_or xs k d) ≤ far)
      → ((k d : ℕ) → p ≤ k → k < length xs → far < gap road at (get_or xs k d)) → Stands
  stands xs far same is within near further = record {
    within = rw same at within;
    near = rw (same, is) at near;
    further = rw (same, is) at further;
  }

  -- each node before the place comes before node j
  comes_first : AreFirst road at j nodes → Stands → (k d : ℕ) → k < p → ComesBefore road at (get_or nodes k d) j
  comes_first h s k d below = let w = s.within in
      order (gap road at (get_or nodes k d)) (gap road at j) (get_or nodes k d) j (s.near k d below) (h.in_range k d (omega arith))
    where
      order : (g h i j : ℕ) → g ≤ h → i < j → (g < h) ⊎ ((g ≡ h) × (i < j))
      order g h i j near less = grind arith

  -- there are 12 nodes already, and node j comes behind them
  pub passed : AreFirst road at j nodes → Stands → 12 ≤ p → AreFirst road at (j + 1) nodes
  passed h s many =
      let few = h.few in
      let w = s.within in
      record {
        few = h.few;
        in_range = λ k d inside. let below = h.in_range k d inside in omega arith;
        in_order = h.in_order;
        first = λ node below. elim (split node j below) [
          | inl less ↦ h.first node less
          | inr same ↦ inr (omega arith, λ k d inside. rw same (comes_first h s k d (omega arith)))
        ];
      }
    where
      split : (k j : ℕ) → k < j + 1 → (k < j) ⊎ (k ≡ j)
      split k j below = grind arith

  -- node j is put to its place, and where there were 12 nodes the last is dropped
  pub offered : AreFirst road at j nodes → Stands → p < 12 → AreFirst road at (j + 1) (insert (take 11 nodes) p j)
  offered h s room =
      let old = take 11 nodes in
      let size = length-take 11 nodes in
      let few = h.few in
      let inside : p ≤ length old = let w = s.within in omega arith in
      let long = length-insert old p j inside in
      let same : (k d : ℕ) → k < length old → get_or old k d ≡ get_or nodes k d = λ k d below. get_or-take 11 nodes k d (omega (arith, size, below)) in
      let full : length nodes ≡ 12 → length (insert old p j) ≡ 12 = λ is. omega (arith, is, size, long) in
      let all_before : (node : ℕ) → length nodes ≡ 12 → All (λ other. ComesBefore road at other node) old → ComesBefore road at j node → (length (insert old p j) ≡ 12) × All (λ other. ComesBefore road at other node) (insert old p j) =
      λ node is olds own. (full is, insert_all (λ other. ComesBefore road at other node) old p j inside olds own) in
      record {
        few = omega (arith, size, long);
        in_range = insert_all (λ node. node < j + 1) old p j inside (take_all (λ node. node < j + 1) nodes 11 (λ k d below. let less = h.in_range k d below in omega arith)) (omega arith);
        in_order = insert_pairs (ComesBefore road at) old p j inside (take_pairs (ComesBefore road at) nodes 11 h.in_order)
            (λ k d below. rw (same k d (omega (arith, below, inside))) (comes_first h s k d below))
            (λ k d from below. rw (same k d below) (inl (s.further k d from (omega (arith, size, below)))));
        first = λ node below. elim (split node j below) [
          | inl less ↦ elim (h.first node less) [
            | inl (k, there, is) ↦ elim (against k) [
              | inl kept ↦ inl (insert_contains old p j node inside (k, omega (arith, size, kept, there), same k node (omega (arith, size, kept, there)) ∙ is))
              | inr last ↦
                  let twelve : length nodes ≡ 12 = omega arith in
                  inr (all_before node twelve
                  (λ m d inner. rw (same m d inner) (subst (λ (x : ℕ). ComesBefore road at (get_or nodes m d) x) is (later h m k d node (omega (arith, size, inner, last)) there)))
                  (inl (subst (λ (x : ℕ). gap road at j < gap road at x) is (s.further k node (omega arith) there))))
            ]
            | inr (twelve, befores) ↦
                inr (all_before node twelve (take_all (λ other. ComesBefore road at other node) nodes 11 befores)
                (comes_through road at j (get_or nodes 11 0) node (s.further 11 0 (omega arith) (omega arith)) (befores 11 0 (omega arith))))
          ]
          | inr is ↦ inl (p, omega (arith, long, inside), get_or-insert_at old p j node inside ∙ sym is)
        ];
      }
    where
      split : (k j : ℕ) → k < j + 1 → (k < j) ⊎ (k ≡ j)
      split k j below = grind arith

      against : (k : ℕ) → (k < 11) ⊎ (11 ≤ k)
      against k = grind arith

      later : AreFirst road at j nodes → (m k d e : ℕ) → m < k → k < length nodes → ComesBefore road at (get_or nodes m d) (get_or nodes k e)
      later h m k d e ordered there = rw (get_or_default nodes k e d there) (h.in_order m k d ordered there)
