-- How long a sweep can be, and which lists are sweeps.
use Rattle.std.proofs.Common.{◌≡◌, ℕ, zero, suc, ◌+◌, ◌<◌, ◌≤◌, List, [], ◌∷◌, length, get_or, All, arith, subst, ◌∙◌}
use Rattle.std.specs.List.Sorted.{IsStrictlyIncreasing}
use Rattle.std.proofs.Math.Nat.{mul-le-mul}
use Rattle.std.proofs.lemmas.List.{get_or_read}
use Rattle.std.proofs.lemmas.List.Elements.{All-get_or}
use Rattle.drm_grid.specs.Layout.{Layout, IsGrid, cell_count}
use Rattle.drm_talk.specs.declared.Element.{Element}
use Rattle.drm_talk.specs.declared.Element.TheVariants.{Node, Edge}
use Rattle.drm_cellmap.specs.Roadmap.{Roadmap, IsElement, IsRoadmap, IsSweep, place_of, stored}

-- an element of a strictly increasing list is at least its place
pub place_le_element : (xs : List ℕ) → IsStrictlyIncreasing xs → (k : ℕ) → k < length xs → k ≤ get_or xs k 0
place_le_element xs rises zero below = omega arith
place_le_element xs rises (suc k) below =
    let before : k ≤ get_or xs k 0 = place_le_element xs rises k (omega arith) in
    let step : get_or xs k 0 < get_or xs (k + 1) 0 = rises k (omega arith) in
    let next : k + 1 ≡ suc k = omega arith in
    subst (λ (m : ℕ). suc k ≤ get_or xs m 0) next (omega arith)

-- a strictly increasing list of numbers below n has at most n
pub length_le_bound : (xs : List ℕ) (n : ℕ) → IsStrictlyIncreasing xs → All (λ x. x < n) xs → length xs ≤ n
length_le_bound [] n rises below = omega arith
length_le_bound (x ∷ xs) n rises below =
    let last : length xs < length (x ∷ xs) = omega arith in
    let least = place_le_element (x ∷ xs) rises (length xs) last in
    let most : get_or (x ∷ xs) (length xs) 0 < n = All-get_or (λ y. y < n) (x ∷ xs) (length xs) 0 last below in
    omega arith

-- a grid has at most 16,384 cells
pub cell_count_limit : (grid : Layout) → IsGrid grid → cell_count grid ≤ 16384
cell_count_limit grid limits = mul-le-mul limits.n.most limits.n.most

-- a sweep has at most 16,384 cells
pub sweep_length_limit : (grid : Layout) (cells : List ℕ) → IsGrid grid → IsSweep grid cells → length cells ≤ 16384
sweep_length_limit grid cells limits sweep =
    omega (arith, length_le_bound cells (cell_count grid) sweep.increasing sweep.in_grid, cell_count_limit grid limits)

-- the sweeps of a roadmap are short
pub short_sweeps : (map : Roadmap) → IsRoadmap map → All (λ cells. length cells ≤ 65536) map.sweeps
short_sweeps map limits k d below =
    let most = sweep_length_limit map.grid (get_or map.sweeps k d) limits.grid (limits.sweeps k d below) in
    omega (arith, most)

-- the place of an element is one of the sweeps'
pub place_below : (map : Roadmap) (e : Element) → IsRoadmap map → IsElement map e → place_of map e < length map.sweeps
place_below map (Node i) limits has = omega (arith, limits.one_each)
place_below map (Edge i) limits has = omega (arith, limits.one_each)

-- what is stored for an element is a sweep
pub stored_is_sweep : (map : Roadmap) (e : Element) → IsRoadmap map → IsElement map e → IsSweep map.grid (stored map e)
stored_is_sweep map e limits has =
    All-get_or (λ cells. IsSweep map.grid cells) map.sweeps (place_of map e) [] (place_below map e limits has) limits.sweeps

-- a row of the sweeps is a sweep
pub row_is_sweep : (map : Roadmap) (rows : List (List ℕ)) (place : ℕ) (row lent : List ℕ) → IsRoadmap map → rows ≡ map.sweeps → place < length rows → row ≡ get_or rows place row → lent ≡ row → IsSweep map.grid lent
row_is_sweep map rows place row lent limits same below read is =
    let found : lent ≡ get_or map.sweeps place [] = rw (← same) (is ∙ get_or_read rows place row below read []) in
    let within : place < length map.sweeps = rw (← same) below in
    rw found (All-get_or (λ cells. IsSweep map.grid cells) map.sweeps place [] within limits.sweeps)

-- a row of the sweeps is short
pub row_is_short : (map : Roadmap) (rows : List (List ℕ)) (place : ℕ) (row lent : List ℕ) → IsRoadmap map → rows ≡ map.sweeps → place < length rows → row ≡ get_or rows place row → lent ≡ row → length lent ≤ 16384
row_is_short map rows place row lent limits same below read is =
    sweep_length_limit map.grid lent limits.grid (row_is_sweep map rows place row lent limits same below read is)

-- the row at an element's place is a sweep
pub element_row_is_sweep : (map : Roadmap) (e : Element) (rows : List (List ℕ)) (place : ℕ) (row lent : List ℕ) → IsRoadmap map → IsElement map e → rows ≡ map.sweeps → place ≡ place_of map e → row ≡ get_or rows place row → lent ≡ row → IsSweep map.grid lent
element_row_is_sweep map e rows place row lent limits has same at read is =
    let below : place < length rows = rw (same, at) (place_below map e limits has) in
    row_is_sweep map rows place row lent limits same below read is
