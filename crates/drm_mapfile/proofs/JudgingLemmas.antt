-- Judging the stored sweeps, one element after another.
use Rattle.std.proofs.Common.{◌≡◌, ℕ, zero, suc, ◌+◌, ◌-◌, ◌/◌, ◌<◌, ◌≤◌, ◌↔◌, Bool, true, false, nat_lt, List, [], ◌∷◌, length, get_or, slice_get, Option, Some, None, Result, Ok, Err, refl, sym, ap, subst, ◌∙◌, arith, ◌⊎◌, inl, inr}
use Rattle.std.specs.Prelude.{IfOk, Contains, slice_index_or, replicate, slice_set}
use Rattle.std.proofs.lemmas.Bool.{cases_lt, lt-ltb, le-ltb}
use Rattle.std.proofs.lemmas.Option.{slice_get_within, slice_get-get_or}
use Rattle.drm_arm.specs.declared.arm.Link.{Link}
use Rattle.drm_arm.specs.declared.config.Motion.{Motion}
use Rattle.drm_arm.specs.Motion.{IsMotion}
use Rattle.drm_grid.specs.CellSet.{Has, IsMissing, IsLeast, HasBetween}
use Rattle.drm_grid.specs.Layout.{Layout, cell_count}
use Rattle.drm_road.specs.Road.{Road, motion_of}
use Rattle.drm_sweep.specs.Swept.{IsSwept}
use Rattle.drm_sweep.specs.Taken.{TakesOut, IsMet}
use Rattle.drm_talk.specs.declared.Element.{Element}
use Rattle.drm_talk.specs.declared.Element.TheVariants.{Node, Edge}
use Rattle.drm_road.specs.Elements.{element_count, element_at}
use Rattle.drm_cellmap.specs.Roadmap.{Roadmap, IsRoadmap, IsElement, place_of, stored}
use Rattle.drm_mapfile.specs.declared.judging.MapVerdict.{MapVerdict}
use Rattle.drm_mapfile.specs.declared.judging.MapVerdict.TheVariants.{Passed, Lacks, Loose}
use Rattle.drm_mapfile.specs.Verdict.{SweptBy, Passes, Lacking, TooMuch, IsStoredSet, FindsLacking, FindsTooMuch, Judges, AllPassBefore, IsFirstAtFault, IsVerdict}
use Rattle.drm_mapfile.proofs.WritingLemmas.{IsAt, element_there}

-- the motion of an element is one of the arm
pub element_moves : (map : Roadmap) (e : Element) → IsRoadmap map → IsElement map e → IsMotion map.arm (motion_of map.road e)
element_moves map (Node i) is there = record { from = is.nodes i [] there; to = is.nodes i [] there }
element_moves map (Edge i) is there =
    let edge = slice_index_or (map.road).edges i (0, 0) in
    let at : slice_get (map.road).edges i ≡ Some edge = slice_get-get_or (map.road).edges i (0, 0) there in
    let ends = is.road.ends i edge.0 edge.1 at in
    record { from = is.nodes edge.0 [] (omega (arith, ends.0, ends.1)); to = is.nodes edge.1 [] ends.1 }

-- a least cell of a kind is one of any kind that says the same
pub same_least : (P Q : ℕ → Type 0) (o : Option ℕ) → ((cell : ℕ) → P cell → Q cell) → ((cell : ℕ) → Q cell → P cell) → IsLeast P o → IsLeast Q o
same_least P Q None there back none = λ cell q. none cell (back cell q)
same_least P Q (Some least) there back found = (there least found.0, λ cell below q. found.1 cell below (back cell q))

has_full : (n cell : ℕ) → cell < n → Has (replicate n true) cell
has_full zero cell h = absurd (omega arith)
has_full (suc n) zero h = refl
has_full (suc n) (suc cell) h = has_full n cell (omega arith)

has_none : (n cell : ℕ) → Has (replicate n false) cell → ⊥
has_none zero zero h = cc
has_none zero (suc cell) h = cc
has_none (suc n) zero h = cc
has_none (suc n) (suc cell) h = has_none n cell h

swept_inside : (map : Roadmap) (e : Element) (pad cell : ℕ) → SweptBy map e pad cell → cell < cell_count map.grid
unfolding IsSwept
swept_inside map e pad cell h = h.0

-- the parts of the map, as its calls give them
pub record AreParts (map : Roadmap) (e : Element) (arm : List Link) (grid : Layout) (road : Road) (motion : Motion) : Type 0 where
  pub arm_is : arm ≡ map.arm
  pub grid_is : grid ≡ map.grid
  pub road_is : road ≡ map.road
  pub motion_is : motion ≡ motion_of road e

whole_motion : (map : Roadmap) (e : Element) (arm : List Link) (grid : Layout) (road : Road) (motion : Motion) → AreParts map e arm grid road motion → motion ≡ motion_of map.road e
whole_motion map e arm grid road motion p = p.motion_is ∙ ap (λ (r : Road). motion_of r e) p.road_is

pub parts_move : (map : Roadmap) (e : Element) (arm : List Link) (grid : Layout) (road : Road) (motion : Motion) → AreParts map e arm grid road motion → IsRoadmap map → IsElement map e → IsMotion arm motion
parts_move map e arm grid road motion p is there =
    subst (λ (m : Motion). IsMotion arm m) (sym (whole_motion map e arm grid road motion p)) (subst (λ (a : List Link). IsMotion a (motion_of map.road e)) (sym p.arm_is) (element_moves map e is there))

swept_so : (map : Roadmap) (e : Element) (arm : List Link) (grid : Layout) (road : Road) (motion : Motion) → AreParts map e arm grid road motion → (pad cell : ℕ) → IsSwept grid arm motion pad cell → SweptBy map e pad cell
swept_so map e arm grid road motion p pad cell h =
    subst (λ (g : Layout). IsSwept g map.arm (motion_of map.road e) pad cell) p.grid_is
    (subst (λ (a : List Link). IsSwept grid a (motion_of map.road e) pad cell) p.arm_is
    (subst (λ (m : Motion). IsSwept grid arm m pad cell) (whole_motion map e arm grid road motion p) h))

swept_back : (map : Roadmap) (e : Element) (arm : List Link) (grid : Layout) (road : Road) (motion : Motion) → AreParts map e arm grid road motion → (pad cell : ℕ) → SweptBy map e pad cell → IsSwept grid arm motion pad cell
swept_back map e arm grid road motion p pad cell h =
    subst (λ (m : Motion). IsSwept grid arm m pad cell) (sym (whole_motion map e arm grid road motion p))
    (subst (λ (a : List Link). IsSwept grid a (motion_of map.road e) pad cell) (sym p.arm_is)
    (subst (λ (g : Layout). IsSwept g map.arm (motion_of map.road e) pad cell) (sym p.grid_is) h))

has_or_not : (set : List Bool) (cell : ℕ) → Has set cell ⊎ (Has set cell → ⊥)
has_or_not [] cell = inr (λ has. cc)
has_or_not (true ∷ set) zero = inl refl
has_or_not (false ∷ set) zero = inr (λ has. cc)
has_or_not (b ∷ set) (suc cell) = has_or_not set cell

-- the least cell that is missing from the set and swept
lacking_found : (map : Roadmap) (e : Element) (set : List Bool) (o : Option ℕ) → IsStoredSet map e set → IsLeast (λ cell. (¬ Has set cell) × SweptBy map e 0 cell) o → FindsLacking map e o
lacking_found map e set None is none = λ cell swept. kept cell swept (has_or_not set cell) where
  kept : (cell : ℕ) → SweptBy map e 0 cell → Has set cell ⊎ (Has set cell → ⊥) → Contains (stored map e) cell
  kept cell swept (inl has) = (is cell).0 has
  kept cell swept (inr lacks) = absurd (none cell (lacks, swept))
lacking_found map e set (Some least) is found = same_least (λ cell. (¬ Has set cell) × SweptBy map e 0 cell) (Lacking map e) (Some least)
    (λ cell lacks. (λ holds. lacks.0 ((is cell).1 holds), lacks.1))
    (λ cell lacks. (λ has. lacks.0 ((is cell).0 has), lacks.1))
    found

pub lacking_call : {M : Type 0} (map : Roadmap) (e : Element) (arm : List Link) (grid : Layout) (road : Road) (motion : Motion) (set full missing : List Bool) (n : ℕ) (r : Result (Option ℕ) M) → AreParts map e arm grid road motion → IsStoredSet map e set
    → n ≡ cell_count map.grid → full ≡ replicate n true → ((cell : ℕ) → Has missing cell ↔ IsMissing full set cell) → IfOk r (IsLeast (IsMet grid arm motion 0 missing)) → IfOk r (FindsLacking map e)
lacking_call map e arm grid road motion set full missing n (Err refused) p is sized all exact least = tt
lacking_call map e arm grid road motion set full missing n (Ok o) p is sized all exact least =
    let whole : full ≡ replicate (cell_count map.grid) true = all ∙ ap (λ (k : ℕ). replicate k true) sized in
    lacking_found map e set o is (same_least (IsMet grid arm motion 0 missing) (λ cell. (¬ Has set cell) × SweptBy map e 0 cell) o
    (λ cell met. (((exact cell).0 met.0).1, swept_so map e arm grid road motion p 0 cell met.1))
    (λ cell lacks. ((exact cell).1 (subst (λ (s : List Bool). Has s cell) (sym whole) (has_full (cell_count map.grid) cell (swept_inside map e 0 cell lacks.1)), lacks.0), swept_back map e arm grid road motion p 0 cell lacks.1))
    least)

-- the least cell that is left when the swept ones are taken out
pub loose_call : (map : Roadmap) (e : Element) (arm : List Link) (grid : Layout) (road : Road) (motion : Motion) (set new : List Bool) (pad size : ℕ) (o : Option ℕ) → AreParts map e arm grid road motion → IsStoredSet map e set
    → pad ≡ map.grid.side / 2 → size ≡ length new → TakesOut (IsSwept grid arm motion pad) set new → IsLeast (HasBetween new 0 size) o → FindsTooMuch map e o
loose_call map e arm grid road motion set new pad size None p is padded sized takes none = λ cell holds. went cell (takes.gone cell ((is cell).1 holds)) where
  went : (cell : ℕ) → Has new cell ⊎ IsSwept grid arm motion pad cell → SweptBy map e (map.grid.side / 2) cell
  went cell (inl left) = absurd (none cell (record { from_first = omega arith; before_end = omega (arith, slice_get_within new cell true left); has = left }))
  went cell (inr swept) = subst (λ (k : ℕ). SweptBy map e k cell) padded (swept_so map e arm grid road motion p pad cell swept)
loose_call map e arm grid road motion set new pad size (Some least) p is padded sized takes found = same_least (HasBetween new 0 size) (TooMuch map e) (Some least)
    (λ cell between. let kept = takes.kept cell between.has in ((is cell).0 kept.0, λ swept. kept.1 (swept_back map e arm grid road motion p pad cell (subst (λ (k : ℕ). SweptBy map e k cell) (sym padded) swept))))
    (λ cell loose. left cell (takes.gone cell ((is cell).1 loose.0)) loose.1)
    found where
      left : (cell : ℕ) → Has new cell ⊎ IsSwept grid arm motion pad cell → (SweptBy map e (map.grid.side / 2) cell → ⊥) → HasBetween new 0 size cell
      left cell (inl has) not_swept = record { from_first = omega arith; before_end = omega (arith, slice_get_within new cell true has); has = has }
      left cell (inr swept) not_swept = absurd (not_swept (subst (λ (k : ℕ). SweptBy map e k cell) padded (swept_so map e arm grid road motion p pad cell swept)))

-- ---- the stored cells as a set

has_set : (set : List Bool) (c cell : ℕ) → c < length set → Has (slice_set set c true) cell ↔ ((cell ≡ c) ⊎ Has set cell)
has_set [] c cell h = absurd (omega arith)
has_set (b ∷ set) zero zero h = (λ _. inl refl, λ _. refl)
has_set (b ∷ set) zero (suc cell) h = (λ has. inr has, λ either. other either) where
  other : (suc cell ≡ 0) ⊎ Has (b ∷ set) (suc cell) → Has set cell
  other (inl is) = absurd (omega arith)
  other (inr has) = has
has_set (b ∷ set) (suc c) zero h = (λ has. inr has, λ either. other either) where
  other : (0 ≡ suc c) ⊎ Has (b ∷ set) 0 → Has (b ∷ set) 0
  other (inl is) = absurd (omega arith)
  other (inr has) = has
has_set (b ∷ set) (suc c) (suc cell) h =
    let inner = has_set set c cell (omega arith) in
    (λ has. up (inner.0 has), λ either. inner.1 (down either)) where
      up : (cell ≡ c) ⊎ Has set cell → (suc cell ≡ suc c) ⊎ Has (b ∷ set) (suc cell)
      up (inl is) = inl (ap suc is)
      up (inr has) = inr has

      down : (suc cell ≡ suc c) ⊎ Has (b ∷ set) (suc cell) → (cell ≡ c) ⊎ Has set cell
      down (inl is) = inl (omega arith)
      down (inr has) = inr has

any_default : (xs : List ℕ) (k d e : ℕ) → k < length xs → get_or xs k d ≡ get_or xs k e
any_default [] k d e h = absurd (omega arith)
any_default (x ∷ xs) zero d e h = refl
any_default (x ∷ xs) (suc k) d e h = any_default xs k d e (omega arith)

-- the set has the first cells of the list
pub record HasFirst (set : List Bool) (cells : List ℕ) (k : ℕ) : Type 0 where
  pub exact : (cell : ℕ) → Has set cell ↔ ((j : ℕ) × (j < k) × (slice_index_or cells j cell ≡ cell))

pub first_none : (set : List Bool) (n : ℕ) (cells : List ℕ) → set ≡ replicate n false → HasFirst set cells 0
first_none set n cells is = record { exact = λ cell. (λ has. absurd (has_none n cell (subst (λ (s : List Bool). Has s cell) is has)), λ some. absurd (omega (arith, some.1))) }

pub first_more : (set new : List Bool) (cells : List ℕ) (k c : ℕ) → HasFirst set cells k → k < length cells → c ≡ get_or cells k 0 → c < length set → new ≡ slice_set set c true → HasFirst new cells (k + 1)
first_more set new cells k c first within at inside is = record {
  exact = λ cell.
      let step = has_set set c cell inside in
      (λ has. there cell (step.0 (subst (λ (s : List Bool). Has s cell) is has)), λ some. subst (λ (s : List Bool). Has s cell) (sym is) (step.1 (back cell some)));
} where
  there : (cell : ℕ) → (cell ≡ c) ⊎ Has set cell → (j : ℕ) × (j < k + 1) × (slice_index_or cells j cell ≡ cell)
  there cell (inl same) = (k, omega arith, any_default cells k cell 0 within ∙ sym at ∙ sym same)
  there cell (inr has) = let p = (first.exact cell).0 has in (p.0, omega (arith, p.1), p.2)

  back : (cell : ℕ) → ((j : ℕ) × (j < k + 1) × (slice_index_or cells j cell ≡ cell)) → (cell ≡ c) ⊎ Has set cell
  back cell some = elim (cases_lt some.0 k) [
    | inl low ↦ inr ((first.exact cell).1 (some.0, low, some.2))
    | inr high ↦
        let same : some.0 ≡ k = omega (arith, some.1) in
        let here : slice_index_or cells k cell ≡ cell = subst (λ (j : ℕ). slice_index_or cells j cell ≡ cell) same some.2 in
        inl (sym here ∙ any_default cells k cell 0 within ∙ sym at)
  ]

-- ---- one element after another

place_is : (map : Roadmap) (e : Element) (place : ℕ) → IsElement map e → place_of map e ≡ place → e ≡ element_at map.road place
place_is map (Node i) place there is = rw (← is, lt-ltb i (length (map.road).nodes) there) refl
place_is map (Edge i) place there is =
    let past : nat_lt (length (map.road).nodes + i) (length (map.road).nodes) ≡ false = le-ltb _ _ (omega arith) in
    let back : (length (map.road).nodes + i) - length (map.road).nodes ≡ i = omega arith in
    rw (← is, past, back) refl

pub none_before : (map : Roadmap) → AllPassBefore map 0
none_before map e there before = absurd (omega arith)

pub one_more_passes : (map : Roadmap) (place : ℕ) → AllPassBefore map place → Passes map (element_at map.road place) → AllPassBefore map (place + 1)
one_more_passes map place before here e there below = elim (cases_lt (place_of map e) place) [
  | inl low ↦ before e there low
  | inr high ↦ let same : place_of map e ≡ place = omega arith in subst (Passes map) (sym (place_is map e place there same)) here
]

in_range : (map : Roadmap) (e : Element) → IsElement map e → place_of map e < element_count map.road
in_range map (Node i) there = omega arith
in_range map (Edge i) there = omega arith

pub all_pass : (map : Roadmap) (place : ℕ) → element_count map.road ≤ place → AllPassBefore map place → (e : Element) → IsElement map e → Passes map e
all_pass map place past before e there = before e there (omega (arith, in_range map e there))

-- the verdict of the first element that does not pass is that of the map
pub first_at_fault : (map : Roadmap) (place : ℕ) (e : Element) (verdict : MapVerdict) → IsAt map place e → AllPassBefore map place → Judges map e verdict → (verdict ≡ Passed → ⊥) → IsVerdict map verdict
first_at_fault map place e Passed at before found not_passed = absurd (not_passed refl)
first_at_fault map place e (Lacks named cell) at before found not_passed =
    let made : IsFirstAtFault map (Lacks named cell) e = record { there = at.there; before = subst (AllPassBefore map) (sym at.place_is) before; found = found } in
    subst (λ (x : Element). IsFirstAtFault map (Lacks named cell) x) (sym found.0) made
first_at_fault map place e (Loose named cell) at before found not_passed =
    let made : IsFirstAtFault map (Loose named cell) e = record { there = at.there; before = subst (AllPassBefore map) (sym at.place_is) before; found = found } in
    subst (λ (x : Element). IsFirstAtFault map (Loose named cell) x) (sym found.0) made

-- the element at a place, as the calls give it
pub at_place : (map : Roadmap) (place : ℕ) (e : Element) (nodes edges : ℕ) (road : Road) → road ≡ map.road → nodes ≡ length road.nodes → edges ≡ length road.edges → e ≡ element_at road place → place < nodes + edges → IsAt map place e
at_place map place e nodes edges road is counted counted_too element inside =
    let n : nodes ≡ length (map.road).nodes = counted ∙ ap (λ (r : Road). length r.nodes) is in
    let m : edges ≡ length (map.road).edges = counted_too ∙ ap (λ (r : Road). length r.edges) is in
    subst (IsAt map place) (sym (element ∙ ap (λ (r : Road). element_at r place) is)) (element_there map place (omega arith))
