-- Reading robots: the object, the links one after another, and the rules of arms and grids.
use Rattle.std.proofs.Common.{◌≡◌, ℕ, suc, ◌+◌, ◌<◌, ◌≤◌, Bool, true, false, cond, ◌⊎◌, inl, inr, List, [], ◌∷◌, ◌++◌, length, get_or, drop, Option, None, Some, Result, Ok, Err, refl, sym, ap, ap₂, subst, ◌∙◌, arith, add-one, nat_le}
use Rattle.std.specs.Prelude.{option_map, is_some}
use Rattle.std.specs.Str.{IsUtf8, is_utf8}
use Rattle.std.proofs.Math.Seq.{drop-cons}
use Rattle.std.proofs.lemmas.Bool.Decides.{nat_tests}
use Rattle.std.proofs.lemmas.List.{append-nil, append_assoc, nil_from_length, length-drop}
use Rattle.std.proofs.lemmas.List.Sums.{AllPass-from_list_all, list_all-from_AllPass}
use Rattle.std.proofs.lemmas.Str.{IsUtf8-from_is_utf8, is_utf8-from_IsUtf8}
use Rattle.serde_json.specs.Data.{Data}
use Rattle.serde_json.specs.Read.{read}
use Rattle.serde_json.specs.Find.{as_object}
use Rattle.serde_json.specs.View.{view, items_view}
use Rattle.serde_json.specs.declared.value.Value.{Value}
use Rattle.drm_num.specs.FirstBroken.{unless, first_of}
use Rattle.drm_arm.specs.declared.arm.Link.{Link}
use Rattle.drm_arm.specs.declared.arm.ArmFault.{ArmFault}
use Rattle.drm_arm.specs.Arm.{arm_fault}
use Rattle.drm_grid.specs.Fits.{Fits}
use Rattle.drm_grid.specs.Layout.{Layout}
use Rattle.drm_grid.specs.GridFault.{grid_fault}
use Rattle.drm_grid.specs.declared.grid.GridFault.{GridFault}
use Rattle.drm_robot.specs.declared.fault.RobotFault.{RobotFault}
use Rattle.drm_robot.specs.declared.fault.RobotFault.TheVariants.{Json, Field, Arm, Grid, Fit, Memory}
use Rattle.drm_robot.specs.declared.json.Description.{Description}
use Rattle.drm_robot.specs.Reading.{◌>>=◌, Fails, if_object, object_in, link_of, links_of, fits, robot_fault, unbroken}

-- a fault is itself, whether or not it is want of memory
pub fails_so : {Y : Type 0} (e : RobotFault) (r : Result Y RobotFault) → r ≡ Err e → Fails e r
fails_so Memory r is = tt
fails_so Json r is = is
fails_so (Field name) r is = is
fails_so (Arm fault) r is = is
fails_so (Grid fault) r is = is
fails_so Fit r is = is

-- ---- the object

tested : (b : Bool) (o p : Option Data) → b ≡ true → o ≡ p → cond b (if_object o) (Err Json) ≡ if_object p
tested true o p passes is = ap if_object is
tested false o p passes is = absurd cc

untested : (b : Bool) (o : Option Data) → (b ≡ true → o ≡ None) → cond b (if_object o) (Err Json) ≡ Err Json
untested true o none = ap if_object (none refl)
untested false o none = refl

no_value : (bytes : List ℕ) → (IsUtf8 bytes → read bytes ≡ None) → object_in bytes ≡ Err Json
no_value bytes none = untested (is_utf8 bytes) (read bytes) (λ passes. none (IsUtf8-from_is_utf8 bytes passes))

pub not_read : (M : Type 0) (e : RobotFault) (bytes : List ℕ) → ((e ≡ Memory) × M) ⊎ ((e ≡ Json) × (¬ M)) → (¬ M → IsUtf8 bytes → read bytes ≡ None) → Fails e (object_in bytes)
not_read M e bytes (inl memory) none = subst (λ (x : RobotFault). Fails x (object_in bytes)) (sym memory.0) tt
not_read M e bytes (inr other) none = fails_so e (object_in bytes) (no_value bytes (none other.1) ∙ ap (λ (x : RobotFault). Err x) (sym other.0))

some_value : (bytes : List ℕ) (value : Data) → IsUtf8 bytes → read bytes ≡ Some value → object_in bytes ≡ if_object (Some value)
some_value bytes value text is = tested (is_utf8 bytes) (read bytes) (Some value) (is_utf8-from_IsUtf8 bytes text) is

objects : (value : Data) (b : Bool) → is_some (as_object value) ≡ b → if_object (Some value) ≡ cond b (Ok value) (Err Json)
objects value b is = ap (λ (t : Bool). cond t (Ok value) (Err Json)) is

pub an_object : (bytes : List ℕ) (value : Data) (b : Bool) → IsUtf8 bytes → read bytes ≡ Some value → b ≡ is_some (as_object value) → object_in bytes ≡ cond b (Ok value) (Err Json)
an_object bytes value b text is object = some_value bytes value text is ∙ objects value b (sym object)

-- ---- the links

-- links that are read behind others
abbrev pub with_front : List Link → Result (List Link) RobotFault → Result (List Link) RobotFault
with_front front read = read >>= λ links. Ok (front ++ links)

regroup : (front : List Link) (x : Link) (read : Result (List Link) RobotFault) → with_front front (read >>= λ links. Ok (x ∷ links)) ≡ with_front (front ++ x ∷ []) read
regroup front x (Ok links) = ap Ok (sym (append_assoc front (x ∷ []) links))
regroup front x (Err fault) = refl

next : (values : List Value) (i : ℕ) (d : Value) → i < length values → links_of (items_view (drop i values)) ≡ (link_of (view (get_or values i d)) >>= λ link. links_of (items_view (drop (suc i) values)) >>= λ links. Ok (link ∷ links))
unfolding links_of
next values i d below = ap (λ (vs : List Value). links_of (items_view vs)) (drop-cons values i d below)

pub starts : (front : List Link) (values : List Value) → front ≡ [] → with_front front (links_of (items_view values)) ≡ links_of (items_view values)
starts front values none = rw none (same (links_of (items_view values))) where
  same : (r : Result (List Link) RobotFault) → with_front [] r ≡ r
  same (Ok links) = refl
  same (Err fault) = refl

pub goes_on : (front pushed : List Link) (values : List Value) (i : ℕ) (d : Value) (x : Link) (total : Result (List Link) RobotFault) → i < length values → d ≡ get_or values i d → Ok x ≡ link_of (view d) → pushed ≡ front ++ x ∷ []
    → with_front front (links_of (items_view (drop i values))) ≡ total → with_front pushed (links_of (items_view (drop (i + 1) values))) ≡ total
goes_on front pushed values i d x total below here is_here is_pushed so_far =
    let is : Ok x ≡ link_of (view (get_or values i d)) = is_here ∙ ap (λ (v : Value). link_of (view v)) here in
    rw (is_pushed, add-one) (sym (regroup front x (links_of (items_view (drop (suc i) values))))
    ∙ ap (λ (r : Result Link RobotFault). with_front front (r >>= λ link. links_of (items_view (drop (suc i) values)) >>= λ links. Ok (link ∷ links))) is
    ∙ ap (with_front front) (sym (next values i d below)) ∙ so_far)

pub stops : (front : List Link) (values : List Value) (i : ℕ) (d : Value) (e : RobotFault) (total : Result (List Link) RobotFault) → i < length values → d ≡ get_or values i d → Err e ≡ link_of (view d)
    → with_front front (links_of (items_view (drop i values))) ≡ total → Fails e total
stops front values i d e total below here is_here so_far =
    let is : Err e ≡ link_of (view (get_or values i d)) = is_here ∙ ap (λ (v : Value). link_of (view v)) here in
    fails_so e total (sym so_far ∙ ap (with_front front) (next values i d below)
    ∙ ap (λ (r : Result Link RobotFault). with_front front (r >>= λ link. links_of (items_view (drop (suc i) values)) >>= λ links. Ok (link ∷ links))) (sym is))

pub is_done : (front : List Link) (values : List Value) (i : ℕ) (total : Result (List Link) RobotFault) → length values ≤ i
    → with_front front (links_of (items_view (drop i values))) ≡ total → total ≡ Ok front
unfolding links_of
is_done front values i total past so_far = sym so_far ∙ ap (λ (vs : List Value). with_front front (links_of (items_view vs))) (drop_all values i past) ∙ ap Ok (append-nil front) where
  drop_all : (vs : List Value) (j : ℕ) → length vs ≤ j → drop j vs ≡ []
  drop_all vs j h = nil_from_length (drop j vs) (omega (arith, length-drop j vs))

-- ---- the rules

-- the test of the arm and the grid is what they are asked
pub fits_so : (d : Description) → Fits (record { side = d.side; n = d.cells }) d.links → fits d ≡ true
fits_so d within = list_all-from_AllPass _ d.links (λ k link below. le_true _ _ (within k link below)) where
  le_true : (a b : ℕ) → a ≤ b → nat_le a b ≡ true
  le_true a b h = grind (arith, nat_tests)

pub fits_not : (d : Description) → (Fits (record { side = d.side; n = d.cells }) d.links → ⊥) → fits d ≡ false
fits_not d outside = refuted (fits d) (λ passes. outside (λ k link below. true_le _ _ (AllPass-from_list_all _ d.links passes k link below))) where
  true_le : (a b : ℕ) → nat_le a b ≡ true → a ≤ b
  true_le a b h = grind (arith, nat_tests)

  refuted : (b : Bool) → (b ≡ true → ⊥) → b ≡ false
  refuted true h = absurd (h refl)
  refuted false h = refl

last_rule : (a : Option ArmFault) (g : Option GridFault) (b : Bool) → None ≡ a → None ≡ g → first_of (option_map (λ x. Arm x) a ∷ option_map (λ x. Grid x) g ∷ unless b Fit ∷ []) ≡ unless b Fit
last_rule None None true ha hg = refl
last_rule None None false ha hg = refl
last_rule None (Some g) b ha hg = absurd cc
last_rule (Some a) g b ha hg = absurd cc

judged : (d : Description) (b : Bool) → None ≡ arm_fault d.links → None ≡ grid_fault d.side d.cells → fits d ≡ b → unbroken (robot_fault d) d ≡ unbroken (unless b Fit) d
judged d b arm grid is =
    ap (λ (o : Option RobotFault). unbroken o d) (last_rule (arm_fault d.links) (grid_fault d.side d.cells) (fits d) arm grid ∙ ap (λ (t : Bool). unless t Fit) is)

moved : (d : Description) (arm : List Link) (grid : Layout) → arm ≡ d.links → grid ≡ record { side = d.side; n = d.cells } → Fits grid arm → Fits (record { side = d.side; n = d.cells }) d.links
moved d arm grid same laid within = subst (λ (links : List Link). Fits (record { side = d.side; n = d.cells }) links) same (subst (λ (g : Layout). Fits g arm) laid within)

moved_back : (d : Description) (arm : List Link) (grid : Layout) → arm ≡ d.links → grid ≡ record { side = d.side; n = d.cells } → Fits (record { side = d.side; n = d.cells }) d.links → Fits grid arm
moved_back d arm grid same laid within = subst (λ (g : Layout). Fits g arm) (sym laid) (subst (λ (links : List Link). Fits (record { side = d.side; n = d.cells }) links) (sym same) within)

pub is_robot : (d : Description) (given arm : List Link) (grid : Layout) → given ≡ d.links → None ≡ arm_fault given → arm ≡ given → None ≡ grid_fault d.side d.cells → grid ≡ record { side = d.side; n = d.cells } → Fits grid arm
    → unbroken (robot_fault d) d ≡ Ok (record { links = arm; side = grid.side; cells = grid.n; seed = d.seed; draws = d.draws; near = d.near })
is_robot d given arm grid all no_arm_given same_given no_grid laid within =
    let no_arm : None ≡ arm_fault d.links = no_arm_given ∙ ap arm_fault all in
    let same : arm ≡ d.links = same_given ∙ all in
    judged d true no_arm no_grid (fits_so d (moved d arm grid same laid within))
    ∙ ap₂ (λ (links : List Link) (g : Layout). Ok (record { links = links; side = g.side; cells = g.n; seed = d.seed; draws = d.draws; near = d.near })) (sym same) (sym laid)

pub no_fit : (d : Description) (given arm : List Link) (grid : Layout) → given ≡ d.links → None ≡ arm_fault given → arm ≡ given → None ≡ grid_fault d.side d.cells → grid ≡ record { side = d.side; n = d.cells } → (Fits grid arm → ⊥)
    → unbroken (robot_fault d) d ≡ Err Fit
no_fit d given arm grid all no_arm_given same_given no_grid laid outside =
    let no_arm : None ≡ arm_fault d.links = no_arm_given ∙ ap arm_fault all in
    let same : arm ≡ d.links = same_given ∙ all in
    judged d false no_arm no_grid (fits_not d (λ within. outside (moved_back d arm grid same laid within)))
