-- Parts that break no rule of maps are a map, and the other way round.
use Rattle.std.proofs.Common.{◌≡◌, ◌↔◌, ℕ, zero, suc, ◌+◌, ◌*◌, ◌/◌, ◌<◌, ◌≤◌, Bool, true, false, ◌&&◌, nat_eq, nat_lt, nat_le, ℤ, List, [], ◌∷◌, length, get_or, All, not, Option, Some, None, arith, refl}
use Rattle.std.specs.List.{list_all, zip, position}
use Rattle.std.specs.List.Sorted.{IsStrictlyIncreasing}
use Rattle.std.proofs.lemmas.Bool.{eqb-true, eq-eqb}
use Rattle.std.proofs.lemmas.Bool.Decides.{nat_tests}
use Rattle.std.proofs.lemmas.List.Sums.{AllPass-from_list_all, list_all-from_AllPass}
use Rattle.drm_num.proofs.RuleLemmas.{kept, unbroken, first_kept, none_broken, each_keeps, none_breaks}
use Rattle.drm_num.specs.FirstBroken.{unless, broken_at, first_of}
use Rattle.drm_arm.specs.declared.arm.Link.{Link}
use Rattle.drm_arm.specs.Arm.{reach_of}
use Rattle.drm_arm.specs.Config.{IsConfig, allows}
use Rattle.drm_grid.specs.Layout.{Layout, cell_count}
use Rattle.drm_grid.specs.Fits.{Fits}
use Rattle.drm_cellmap.specs.declared.map.MapFault.{MapFault}
use Rattle.drm_cellmap.specs.declared.map.MapFault.TheVariants.{Fit, Node, Sweeps, Order, Total}
use Rattle.drm_cellmap.specs.Limits.{max_entries}
use Rattle.drm_road.specs.Elements.{element_count}
use Rattle.drm_cellmap.specs.Roadmap.{Roadmap, IsRoadmap, entries_of}
use Rattle.drm_cellmap.proofs.SweepLemmas.{length_le_bound}
use Rattle.drm_cellmap.specs.MapFaults.{map_fault, fits, is_config, rises, is_sweep, AreParts}

-- two tests that are passed together
pub both : (b c : Bool) → (b && c) ≡ true → (b ≡ true) × (c ≡ true)
both true c passes = (refl, passes)
both false c passes = cc

together : (b c : Bool) → b ≡ true → c ≡ true → (b && c) ≡ true
together true c first second = second
together false c first second = cc

at_most : (m n : ℕ) → nat_le m n ≡ true → m ≤ n
at_most m n passes = grind (arith, nat_tests)

is_at_most : (m n : ℕ) → m ≤ n → nat_le m n ≡ true
is_at_most m n least = grind (arith, nat_tests)

below : (m n : ℕ) → nat_lt m n ≡ true → m < n
below m n passes = grind (arith, nat_tests)

is_below : (m n : ℕ) → m < n → nat_lt m n ≡ true
is_below m n less = grind (arith, nat_tests)

-- the test of whether an arm stays within a grid
fits_means : (grid : Layout) (links : List Link) → fits grid links ≡ true → Fits grid links
fits_means grid links passes = λ k d inside.
    at_most (reach_of links + (get_or links k d).radius) (grid.side * (grid.n / 2))
    (AllPass-from_list_all (λ link. nat_le (reach_of links + link.radius) (grid.side * (grid.n / 2))) links passes k d inside)

pub fits_is : (grid : Layout) (links : List Link) → Fits grid links → fits grid links ≡ true
fits_is grid links stays =
    list_all-from_AllPass (λ link. nat_le (reach_of links + link.radius) (grid.side * (grid.n / 2))) links
    (λ k d inside. is_at_most (reach_of links + (get_or links k d).radius) (grid.side * (grid.n / 2)) (stays k d inside))

-- the test of whether a node is a configuration
pub config_means : (links : List Link) (values : List ℤ) → is_config links values ≡ true → IsConfig links values
config_means links values passes =
    let parts = both (nat_eq (length links) (length values)) (list_all (λ pair. allows pair.0 pair.1) (zip links values)) passes in
    record {
      counted = eqb-true (length links) (length values) parts.0;
      within = AllPass-from_list_all (λ pair. allows pair.0 pair.1) (zip links values) parts.1;
    }

pub config_is : (links : List Link) (values : List ℤ) → IsConfig links values → is_config links values ≡ true
config_is links values h =
    together (nat_eq (length links) (length values)) (list_all (λ pair. allows pair.0 pair.1) (zip links values))
    (eq-eqb (length links) (length values) h.counted)
    (list_all-from_AllPass (λ pair. allows pair.0 pair.1) (zip links values) h.within)

-- the test of whether cells rise
rising : (cells : List ℕ) → rises cells ≡ true → IsStrictlyIncreasing cells
rising [] passes k inside = absurd (omega arith)
rising (cell ∷ []) passes k inside = absurd (omega arith)
rising (cell ∷ next ∷ rest) passes zero inside = below cell next (both (nat_lt cell next) (rises (next ∷ rest)) passes).0
rising (cell ∷ next ∷ rest) passes (suc k) inside =
    let step : suc k + 1 ≡ suc (k + 1) = omega arith in
    rw step (rising (next ∷ rest) (both (nat_lt cell next) (rises (next ∷ rest)) passes).1 k (omega arith))

tail_rises : (cell : ℕ) (rest : List ℕ) → IsStrictlyIncreasing (cell ∷ rest) → IsStrictlyIncreasing rest
tail_rises cell rest rise k inside =
    let step : suc k + 1 ≡ suc (k + 1) = omega arith in
    rw step at (rise (suc k) (omega arith))

rises_is : (cells : List ℕ) → IsStrictlyIncreasing cells → rises cells ≡ true
rises_is [] rise = refl
rises_is (cell ∷ []) rise = refl
rises_is (cell ∷ next ∷ rest) rise =
    together (nat_lt cell next) (rises (next ∷ rest)) (is_below cell next (rise 0 (omega arith))) (rises_is (next ∷ rest) (tail_rises cell (next ∷ rest) rise))

-- the test of whether cells may be stored
pub sweep_means : (count : ℕ) (cells : List ℕ) → is_sweep count cells ≡ true → IsStrictlyIncreasing cells × All (λ cell. cell < count) cells
sweep_means count cells passes =
    let parts = both (rises cells) (list_all (λ cell. nat_lt cell count) cells) passes in
    (rising cells parts.0, λ k d inside. below (get_or cells k d) count (AllPass-from_list_all (λ cell. nat_lt cell count) cells parts.1 k d inside))

pub sweep_is : (count : ℕ) (cells : List ℕ) → IsStrictlyIncreasing cells → All (λ cell. cell < count) cells → is_sweep count cells ≡ true
sweep_is count cells rise inside =
    together (rises cells) (list_all (λ cell. nat_lt cell count) cells) (rises_is cells rise)
    (list_all-from_AllPass (λ cell. nat_lt cell count) cells (λ k d within. is_below (get_or cells k d) count (inside k d within)))

-- the rules, each with those after it
abbrev total_rules : Roadmap → List (Option MapFault)
total_rules m = unless (nat_le (entries_of m.sweeps) max_entries) (Total (entries_of m.sweeps)) ∷ []

abbrev order_rules : Roadmap → List (Option MapFault)
order_rules m = broken_at (λ i. Order i) (is_sweep (cell_count m.grid)) m.sweeps ∷ total_rules m

abbrev count_rules : Roadmap → List (Option MapFault)
count_rules m = unless (nat_eq (length m.sweeps) (element_count m.road)) (Sweeps (length m.sweeps)) ∷ order_rules m

abbrev node_rules : Roadmap → List (Option MapFault)
node_rules m = broken_at (λ i. Node i) (is_config m.arm) m.road.nodes ∷ count_rules m

-- parts that break no rule are a map
is_map : (m : Roadmap) → AreParts m → map_fault m ≡ None → IsRoadmap m
is_map m parts none =
    let first = first_kept (unless (fits m.grid m.arm) Fit) (node_rules m) none in
    let second = first_kept (broken_at (λ i. Node i) (is_config m.arm) m.road.nodes) (count_rules m) first.1 in
    let third = first_kept (unless (nat_eq (length m.sweeps) (element_count m.road)) (Sweeps (length m.sweeps))) (order_rules m) second.1 in
    let fourth = first_kept (broken_at (λ i. Order i) (is_sweep (cell_count m.grid)) m.sweeps) (total_rules m) third.1 in
    let fifth = first_kept (unless (nat_le (entries_of m.sweeps) max_entries) (Total (entries_of m.sweeps))) [] fourth.1 in
    let nodes = each_keeps (λ i. Node i) (is_config m.arm) m.road.nodes second.0 in
    let sweeps = each_keeps (λ i. Order i) (is_sweep (cell_count m.grid)) m.sweeps fourth.0 in
    record {
      arm = parts.arm;
      grid = parts.grid;
      fits = fits_means m.grid m.arm (kept (fits m.grid m.arm) Fit first.0);
      road = parts.road;
      nodes = λ k d inside. config_means m.arm (get_or m.road.nodes k d) (nodes k d inside);
      one_each = eqb-true (length m.sweeps) (element_count m.road) (kept (nat_eq (length m.sweeps) (element_count m.road)) (Sweeps (length m.sweeps)) third.0);
      sweeps = λ k d inside.
          let sweep = sweep_means (cell_count m.grid) (get_or m.sweeps k d) (sweeps k d inside) in
          record { increasing = sweep.0; in_grid = sweep.1 };
      entries = at_most (entries_of m.sweeps) max_entries (kept (nat_le (entries_of m.sweeps) max_entries) (Total (entries_of m.sweeps)) fifth.0);
    }

faultless : (m : Roadmap) → IsRoadmap m → map_fault m ≡ None
faultless m h =
    none_broken (unless (fits m.grid m.arm) Fit) (node_rules m) (unbroken (fits m.grid m.arm) Fit (fits_is m.grid m.arm h.fits))
    (none_broken (broken_at (λ i. Node i) (is_config m.arm) m.road.nodes) (count_rules m)
    (none_breaks (λ i. Node i) (is_config m.arm) m.road.nodes (λ k d inside. config_is m.arm (get_or m.road.nodes k d) (h.nodes k d inside)))
    (none_broken (unless (nat_eq (length m.sweeps) (element_count m.road)) (Sweeps (length m.sweeps))) (order_rules m)
    (unbroken (nat_eq (length m.sweeps) (element_count m.road)) (Sweeps (length m.sweeps)) (eq-eqb (length m.sweeps) (element_count m.road) h.one_each))
    (none_broken (broken_at (λ i. Order i) (is_sweep (cell_count m.grid)) m.sweeps) (total_rules m)
    (none_breaks (λ i. Order i) (is_sweep (cell_count m.grid)) m.sweeps (λ k d inside. let sweep = h.sweeps k d inside in sweep_is (cell_count m.grid) (get_or m.sweeps k d) sweep.increasing sweep.in_grid))
    (none_broken (unless (nat_le (entries_of m.sweeps) max_entries) (Total (entries_of m.sweeps))) []
    (unbroken (nat_le (entries_of m.sweeps) max_entries) (Total (entries_of m.sweeps)) (is_at_most (entries_of m.sweeps) max_entries h.entries)) refl))))

-- both ways
pub map_or_not : (m : Roadmap) → AreParts m → (map_fault m ≡ None) ↔ IsRoadmap m
map_or_not m parts = (is_map m parts, faultless m)

-- parts that break a rule are no map
pub no_map : (m : Roadmap) (fault : MapFault) → map_fault m ≡ Some fault → (map_fault m ≡ None) ↔ IsRoadmap m
no_map m fault broken = (λ (none : map_fault m ≡ None). cc, λ (is : IsRoadmap m). let none = faultless m is in cc)

-- the faults, each where the rules before it are kept
keeps_rule : (test : Bool) (fault : MapFault) (rules : List (Option MapFault)) → test ≡ true → first_of (unless test fault ∷ rules) ≡ first_of rules
keeps_rule true fault rules passes = refl
keeps_rule false fault rules passes = cc

breaks_rule : (test : Bool) (fault : MapFault) (rules : List (Option MapFault)) → test ≡ false → first_of (unless test fault ∷ rules) ≡ Some fault
breaks_rule true fault rules fails = cc
breaks_rule false fault rules fails = refl

pub past_fit : (m : Roadmap) → Fits m.grid m.arm → map_fault m ≡ first_of (node_rules m)
past_fit m stays = keeps_rule (fits m.grid m.arm) Fit (node_rules m) (fits_is m.grid m.arm stays)

pub at_node : (m : Roadmap) (i : ℕ) → position (λ node. not (is_config m.arm node)) m.road.nodes ≡ Some i → first_of (node_rules m) ≡ Some (Node i)
at_node m i place = rw place refl

pub past_nodes : (m : Roadmap) → position (λ node. not (is_config m.arm node)) m.road.nodes ≡ None → first_of (node_rules m) ≡ first_of (count_rules m)
past_nodes m place = rw place refl

pub at_count : (m : Roadmap) → (length m.sweeps ≡ element_count m.road → ⊥) → first_of (count_rules m) ≡ Some (Sweeps (length m.sweeps))
at_count m differ = breaks_rule (nat_eq (length m.sweeps) (element_count m.road)) (Sweeps (length m.sweeps)) (order_rules m) (unequal (length m.sweeps) (element_count m.road) differ)
  where
    unequal : (a b : ℕ) → (a ≡ b → ⊥) → nat_eq a b ≡ false
    unequal a b differ = grind (arith, nat_tests)

pub past_count : (m : Roadmap) → length m.sweeps ≡ element_count m.road → first_of (count_rules m) ≡ first_of (order_rules m)
past_count m same = keeps_rule (nat_eq (length m.sweeps) (element_count m.road)) (Sweeps (length m.sweeps)) (order_rules m) (eq-eqb (length m.sweeps) (element_count m.road) same)

pub at_order : (m : Roadmap) (i : ℕ) → position (λ cells. not (is_sweep (cell_count m.grid) cells)) m.sweeps ≡ Some i → first_of (order_rules m) ≡ Some (Order i)
at_order m i place = rw place refl

pub past_order : (m : Roadmap) → position (λ cells. not (is_sweep (cell_count m.grid) cells)) m.sweeps ≡ None → first_of (order_rules m) ≡ first_of (total_rules m)
past_order m place = rw place refl

pub at_total : (m : Roadmap) → max_entries < entries_of m.sweeps → first_of (total_rules m) ≡ Some (Total (entries_of m.sweeps))
at_total m more = breaks_rule (nat_le (entries_of m.sweeps) max_entries) (Total (entries_of m.sweeps)) [] (over (entries_of m.sweeps) max_entries more)
  where
    over : (a b : ℕ) → b < a → nat_le a b ≡ false
    over a b more = grind (arith, nat_tests)

pub past_total : (m : Roadmap) → entries_of m.sweeps ≤ max_entries → first_of (total_rules m) ≡ None
past_total m few = keeps_rule (nat_le (entries_of m.sweeps) max_entries) (Total (entries_of m.sweeps)) [] (is_at_most (entries_of m.sweeps) max_entries few)

-- lists whose cells rise below a number that fits sixteen bits are short
pub short_rows : (count : ℕ) (sweeps : List (List ℕ)) → count ≤ 65536 → position (λ cells. not (is_sweep count cells)) sweeps ≡ None → All (λ cells. length cells ≤ 65536) sweeps
short_rows count sweeps few place k d inside =
    let passes = each_keeps (λ i. Order i) (is_sweep count) sweeps (rw place refl) k d inside in
    let sweep = sweep_means count (get_or sweeps k d) passes in
    let short = length_le_bound (get_or sweeps k d) count sweep.0 sweep.1 in
    omega arith
