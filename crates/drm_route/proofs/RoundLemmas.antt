-- Labels that are lowered keep their grounds and their bound, and their total falls.
use Rattle.std.proofs.Common.{◌≡◌, ◌⊎◌, inl, inr, ℕ, zero, suc, ◌+◌, ◌<◌, ◌≤◌, Bool, true, false, List, [], ◌∷◌, length, get_or, set, slice_get, Option, None, Some, refl, ap, sym, ◌∙◌, subst, arith}
use Rattle.std.proofs.lemmas.List.{length-set}
use Rattle.std.proofs.lemmas.List.Sums.{sum_by-set, sum_by-cons}
use Rattle.std.proofs.lemmas.Option.{slice_get_within, slice_get-get_or}
use Rattle.drm_grid.specs.CellSet.{Has}
use Rattle.drm_road.specs.Road.{Road, IsRoad, weight_of}
use Rattle.drm_cellmap.specs.Elements.{node_count, edge_count, HasEnds}
use Rattle.drm_cellmap.specs.Snapshot.{Snapshot}
use Rattle.drm_cellmap.specs.Routes.{Joins}
use Rattle.drm_cellmap.specs.Certificates.{IsLabel, Agrees}
use Rattle.drm_route.specs.Limits.{max_weight}
use Rattle.drm_route.specs.Labels.{Supports, HasGrounds}
use Rattle.drm_route.specs.Rounds.{HasSmallWeights, one_if, labelled, AreSmall, cost, total, IsAtMost, AgreesOver, Lowers, Relaxes, RelaxesAt, IsRound}

-- a list with one element written
read_set : {A : Type 0} (xs : List A) (v k : ℕ) (y z : A) → slice_get (set xs v y) k ≡ Some z → ((k ≡ v) × (y ≡ z)) ⊎ ((k ≡ v → ⊥) × (slice_get xs k ≡ Some z))
read_set [] v k y z is = absurd cc
read_set (x ∷ xs) zero zero y z is = inl (refl, cc)
read_set (x ∷ xs) zero (suc k) y z is = inr (λ e. absurd (omega arith), is)
read_set (x ∷ xs) (suc v) zero y z is = inr (λ e. absurd (omega arith), is)
read_set (x ∷ xs) (suc v) (suc k) y z is =
    elim (read_set xs v k y z is) [
      | inl h ↦ inl (ap suc h.0, h.1)
      | inr h ↦ inr (λ e. h.0 (omega arith), h.1)
    ]

set_same : {A : Type 0} (xs : List A) (v : ℕ) (y : A) → v < length xs → slice_get (set xs v y) v ≡ Some y
set_same [] v y below = absurd (omega arith)
set_same (x ∷ xs) zero y below = refl
set_same (x ∷ xs) (suc v) y below = set_same xs v y (omega arith)

set_other : {A : Type 0} (xs : List A) (v k : ℕ) (y z : A) → (k ≡ v → ⊥) → slice_get xs k ≡ Some z → slice_get (set xs v y) k ≡ Some z
set_other [] v k y z other is = is
set_other (x ∷ xs) zero zero y z other is = absurd (other refl)
set_other (x ∷ xs) zero (suc k) y z other is = is
set_other (x ∷ xs) (suc v) zero y z other is = is
set_other (x ∷ xs) (suc v) (suc k) y z other is = set_other xs v k y z (λ e. other (ap suc e)) is

pub same_or_not : (m n : ℕ) → (m ≡ n) ⊎ (m ≡ n → ⊥)
same_or_not zero zero = inl refl
same_or_not zero (suc n) = inr (λ e. absurd (omega arith))
same_or_not (suc m) zero = inr (λ e. absurd (omega arith))
same_or_not (suc m) (suc n) = elim (same_or_not m n) [ inl h ↦ inl (ap suc h) | inr h ↦ inr (λ e. h (omega arith)) ]

pub labelled_fits : (labels : List (Option ℕ)) → labelled labels ≤ length labels
labelled_fits [] = omega arith
labelled_fits (None ∷ labels) = omega (arith, labelled_fits labels, sum_by-cons one_if None labels)
labelled_fits (Some a ∷ labels) = omega (arith, labelled_fits labels, sum_by-cons one_if (Some a) labels)

-- what is so after v got the label of u and the weight, which is less than it had
pub record IsLowered (road : Road) (snap : Snapshot) (old new : List (Option ℕ)) : Type 0 where
  pub one_each : length new ≡ length old
  pub small : AreSmall new
  pub grounds : (from : ℕ) → HasGrounds road snap from old → HasGrounds road snap from new
  pub fell : total new < total old

-- a label that supported another one still does, or is lower still
supports_kept : (road : Road) (snap : Snapshot) (old : List (Option ℕ)) (v far y x c : ℕ) → v < length old → ((b : ℕ) → IsLabel old v b → far < b) → Supports road snap old y x c → Supports road snap (set old v (Some far)) y x c
supports_kept road snap old v far y x c below higher s =
    let enough = s.enough in
    elim (same_or_not y v) [
      | inl same ↦
          let there : IsLabel old v s.b = subst (λ (n : ℕ). IsLabel old n s.b) same s.label in
          let less = higher s.b there in
          let here : IsLabel (set old v (Some far)) y far = subst (λ (n : ℕ). IsLabel (set old v (Some far)) n far) (sym same) (set_same old v (Some far) below) in
          record { w = s.w; b = far; joins = s.joins; label = here; enough = omega arith }
      | inr other ↦ record { w = s.w; b = s.b; joins = s.joins; label = set_other old v y (Some far) (Some s.b) other s.label; enough = enough }
    ]

grounds_kept : (road : Road) (snap : Snapshot) (from : ℕ) (old : List (Option ℕ)) (u v w a : ℕ) → Joins road snap u v w → IsLabel old u a → v < length old → ((b : ℕ) → IsLabel old v b → a + w < b) → HasGrounds road snap from old → HasGrounds road snap from (set old v (Some (a + w)))
grounds_kept road snap from old u v w a joins near below higher grounds = record { one_each = length-set old v (Some (a + w)) ∙ grounds.one_each; start = start; each = each }
  where
    start : IsLabel (set old v (Some (a + w))) from 0
    start = set_other old v from (Some (a + w)) (Some 0) (λ same.
        let here : IsLabel old v 0 = subst (λ (n : ℕ). IsLabel old n 0) same grounds.start in
        let less = higher 0 here in
        absurd (omega arith)) grounds.start

    apart : u ≡ v → ⊥
    apart same =
        let here : IsLabel old v a = subst (λ (n : ℕ). IsLabel old n a) same near in
        let less = higher a here in
        absurd (omega arith)

    each : (x c : ℕ) → IsLabel (set old v (Some (a + w))) x c → ((x ≡ from) × (c ≡ 0)) ⊎ ((y : ℕ) × Supports road snap (set old v (Some (a + w))) y x c)
    each x c label =
        elim (read_set old v x (Some (a + w)) (Some c) label) [
          | inl (same, is) ↦
              let sum : a + w ≡ c = cc in
              let to_x : Joins road snap u x w = subst (λ (n : ℕ). Joins road snap u n w) (sym same) joins in
              inr (u, record { w = w; b = a; joins = to_x; label = set_other old v u (Some (a + w)) (Some a) apart near; enough = omega arith })
          | inr (other, before) ↦
              elim (grounds.each x c before) [
                | inl h ↦ inl h
                | inr (y, s) ↦ inr (y, supports_kept road snap old v (a + w) y x c below higher s)
              ]
        ]

-- the old label of v, and what the new one does to the counts
pub lowered : (road : Road) (snap : Snapshot) (old new : List (Option ℕ)) (u v w : ℕ) → Joins road snap u v w → w ≤ max_weight → length old ≤ 2048 → v < length old → AreSmall old → Lowers old u v w new true → IsLowered road snap old new
lowered road snap old new u v w joins light few below small (a, near, is, higher) =
    rw is (go (get_or old v None) (slice_get-get_or old v None below) (sum_by-set one_if old v (Some (a + w)) None below) (sum_by-set cost old v (Some (a + w)) None below))
  where
    go : (before : Option ℕ) → slice_get old v ≡ Some before → labelled (set old v (Some (a + w))) + one_if before ≡ labelled old + 1 → total (set old v (Some (a + w))) + cost before ≡ total old + (a + w) → IsLowered road snap old (set old v (Some (a + w)))
    go None there count sum = record {
      one_each = length-set old v (Some (a + w));
      small = λ x c label. elim (read_set old v x (Some (a + w)) (Some c) label) [
        | inl (same, is_c) ↦ let equal : a + w ≡ c = cc in let low = small u a near in omega arith
        | inr (other, was) ↦ let low = small x c was in omega arith
      ];
      grounds = λ from grounds. grounds_kept road snap from old u v w a joins near below higher grounds;
      fell =
          let low = small u a near in
          let size = length-set old v (Some (a + w)) in
          let fit = labelled_fits (set old v (Some (a + w))) in
          omega arith;
    }
    go (Some b) there count sum = record {
      one_each = length-set old v (Some (a + w));
      small = λ x c label. elim (read_set old v x (Some (a + w)) (Some c) label) [
        | inl (same, is_c) ↦ let equal : a + w ≡ c = cc in let low = small v b there in let less = higher b there in omega arith
        | inr (other, was) ↦ let low = small x c was in omega arith
      ];
      grounds = λ from grounds. grounds_kept road snap from old u v w a joins near below higher grounds;
      fell = let less = higher b there in omega arith;
    }

edge_there : {A : Type 0} (xs : List A) (i : ℕ) → i < length xs → (x : A) × (slice_get xs i ≡ Some x)
edge_there [] i below = absurd (omega arith)
edge_there (x ∷ xs) zero below = (x, refl)
edge_there (x ∷ xs) (suc i) below = edge_there xs i (omega arith)

over_edge : (road : Road) (snap : Snapshot) (old new : List (Option ℕ)) (i a b : ℕ) → IsRoad road → HasSmallWeights road → length old ≡ node_count road → AreSmall old → HasEnds road i a b → (Has snap.edges i → ⊥) → Relaxes old a b (weight_of road a b) new true → IsLowered road snap old new
over_edge road snap old new i a b is light one_each small there clear relaxes =
    let order = is.ends i a b there in
    let few = is.few in
    elim relaxes [
      | inl h ↦ lowered road snap old new a b (weight_of road a b) (record { edge = i; a = a; b = b; is_edge = there; clear = clear; ends = inl (refl, refl); weight = refl }) (light i a b there) (omega arith) (omega arith) small h
      | inr h ↦ lowered road snap old new b a (weight_of road a b) (record { edge = i; a = a; b = b; is_edge = there; clear = clear; ends = inr (refl, refl); weight = refl }) (light i a b there) (omega arith) (omega arith) small h
    ]

no_more : (road : Road) (snap : Snapshot) (old now : List (Option ℕ)) (i : ℕ) (changed : Bool) → IsRound road snap old i now changed → total now ≤ total old
no_more road snap old now i true round = let less = round.fell refl in omega arith
no_more road snap old now i false round = let same : total now ≡ total old = ap total (round.same refl) in omega arith

-- at first nothing is changed
pub round_first : (road : Road) (snap : Snapshot) (old : List (Option ℕ)) → AreSmall old → IsRound road snap old 0 old false
round_first road snap old small = record {
  one_each = refl;
  small = small;
  grounds = λ from grounds. grounds;
  fell = λ e. absurd cc;
  same = λ e. refl;
  agree = λ e i a b below there clear. absurd (omega arith);
}

-- an edge over which a label is lowered
pub round_lowers : (road : Road) (snap : Snapshot) (old now new : List (Option ℕ)) (i : ℕ) (changed r : Bool) → IsRoad road → HasSmallWeights road → length old ≡ node_count road → i < edge_count road → IsRound road snap old i now changed → r ≡ true → RelaxesAt road snap now i new r → IsRound road snap old (i + 1) new true
round_lowers road snap old now new i changed false is light one_each below round says h = absurd cc
round_lowers road snap old now new i changed true is light one_each below round says (clear, relaxes) =
    let edge = edge_there road.edges i below in
    let step = over_edge road snap now new i edge.0.0 edge.0.1 is light (round.one_each ∙ one_each) round.small edge.1 clear (relaxes edge.0.0 edge.0.1 edge.1) in
    let most = no_more road snap old now i changed round in
    let less = step.fell in
    record {
      one_each = step.one_each ∙ round.one_each;
      small = step.small;
      grounds = λ from grounds. step.grounds from (round.grounds from grounds);
      fell = λ e. omega arith;
      same = λ e. absurd cc;
      agree = λ e. absurd cc;
    }

-- an edge over which none can be
pub round_keeps : (road : Road) (snap : Snapshot) (old now new : List (Option ℕ)) (i : ℕ) (changed r : Bool) → IsRound road snap old i now changed → r ≡ false → RelaxesAt road snap now i new r → IsRound road snap old (i + 1) new changed
round_keeps road snap old now new i changed true round says h = absurd cc
round_keeps road snap old now new i changed false round says (is, agrees) = rw is (record {
  one_each = round.one_each;
  small = round.small;
  grounds = round.grounds;
  fell = round.fell;
  same = round.same;
  agree = λ e k a b below there clear.
      elim (same_or_not k i) [
        | inl last ↦
            let at_i : HasEnds road i a b = subst (λ (n : ℕ). HasEnds road n a b) last there in
            let clear_i : Has snap.edges i → ⊥ = subst (λ (n : ℕ). Has snap.edges n → ⊥) last clear in
            subst (λ (labels : List (Option ℕ)). AgreesOver labels a b (weight_of road a b) × AgreesOver labels b a (weight_of road a b)) (round.same e) (agrees a b at_i clear_i)
        | inr before ↦ round.agree e k a b (omega arith) there clear
      ];
})

-- a round that changes nothing
pub unchanged_agrees : (road : Road) (snap : Snapshot) (old new : List (Option ℕ)) → IsRound road snap old (edge_count road) new false → Agrees road snap new
unchanged_agrees road snap old new round = rw (round.same refl) all
  where
    all : Agrees road snap old
    all u v w x joins label =
        let both = round.agree refl joins.edge joins.a joins.b (slice_get_within road.edges joins.edge (joins.a, joins.b) joins.is_edge) joins.is_edge joins.clear in
        elim joins.ends [
          | inl (first, second) ↦ over u v w joins.a joins.b first second joins.weight both.0 x label
          | inr (first, second) ↦ over_back u v w joins.a joins.b first second joins.weight both.1 x label
        ]
      where
        over : (u v w a b : ℕ) → a ≡ u → b ≡ v → w ≡ weight_of road a b → AgreesOver old a b (weight_of road a b) → AgreesOver old u v w
        over u v w a b first second weight agrees = rw (← first, ← second, weight) agrees

        over_back : (u v w a b : ℕ) → a ≡ v → b ≡ u → w ≡ weight_of road a b → AgreesOver old b a (weight_of road a b) → AgreesOver old u v w
        over_back u v w a b first second weight agrees = rw (← first, ← second, weight) agrees

-- the label that v has is at most the sum, or v has none or a greater one
pub keeps_label : (labels : List (Option ℕ)) (u v w near : ℕ) (before : Option ℕ) → IsLabel labels u near → slice_get labels v ≡ Some before → IsAtMost before (near + w) → AgreesOver labels u v w
keeps_label labels u v w near None label there most = absurd most
keeps_label labels u v w near (Some b) label there most =
    λ a label_a. let same : near ≡ a = cc in (b, there, omega (arith, most))

pub has_more : (labels : List (Option ℕ)) (v far : ℕ) (before : Option ℕ) → slice_get labels v ≡ Some before → (IsAtMost before far → ⊥) → (b : ℕ) → IsLabel labels v b → far < b
has_more labels v far None there not_most b label = absurd cc
has_more labels v far (Some c) there not_most b label = let same : c ≡ b = cc in above far b (λ most. not_most (omega arith))
  where
    above : (m n : ℕ) → (n ≤ m → ⊥) → m < n
    above m n never = grind arith

-- the two nodes of the edge with this number
pub at_ends : (road : Road) (old new : List (Option ℕ)) (i x y w : ℕ) (e : ℕ × ℕ) (r : Bool) → slice_get road.edges i ≡ Some e → (x, y) ≡ e → w ≡ weight_of road e.0 e.1 → Relaxes old x y w new r → (a b : ℕ) → HasEnds road i a b → Relaxes old a b (weight_of road a b) new r
at_ends road old new i x y w e r place view weight relaxes a b there =
    let pair : e ≡ (a, b) = cc in
    let first : x ≡ a = ap (λ (p : ℕ × ℕ). p.0) (view ∙ pair) in
    let second : y ≡ b = ap (λ (p : ℕ × ℕ). p.1) (view ∙ pair) in
    let heavy : w ≡ weight_of road a b = weight ∙ ap (λ (p : ℕ × ℕ). weight_of road p.0 p.1) pair in
    rw (first, second, heavy) at relaxes

-- the first direction lowers a label
pub first_lowers : (old new : List (Option ℕ)) (a b w : ℕ) (r : Bool) → r ≡ true → Lowers old a b w new r → Relaxes old a b w new true
first_lowers old new a b w true says lowers = inl lowers
first_lowers old new a b w false says lowers = absurd cc

-- the first one does not, and then the second one does or does not
pub second_tells : (old between new : List (Option ℕ)) (a b w : ℕ) (r s : Bool) → r ≡ false → Lowers old a b w between r → Lowers between b a w new s → Relaxes old a b w new s
second_tells old between new a b w true s says first second = absurd cc
second_tells old between new a b w false true says (same, agrees) second = inr (rw same at second)
second_tells old between new a b w false false says (same, agrees) (still, agrees_back) = (still ∙ same, agrees, subst (λ (labels : List (Option ℕ)). AgreesOver labels b a w) same agrees_back)

-- over an edge that is not barred
pub open_relaxes : (road : Road) (snap : Snapshot) (old new : List (Option ℕ)) (i : ℕ) (r : Bool) → i < edge_count road → (Has snap.edges i → ⊥) → ((a b : ℕ) → HasEnds road i a b → Relaxes old a b (weight_of road a b) new r) → RelaxesAt road snap old i new r
open_relaxes road snap old new i true below clear relaxes = (clear, relaxes)
open_relaxes road snap old new i false below clear relaxes =
    let edge = edge_there road.edges i below in
    ((relaxes edge.0.0 edge.0.1 edge.1).0, λ a b there _. let agree = relaxes a b there in (agree.1, agree.2))
