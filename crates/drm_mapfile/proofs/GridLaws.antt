-- The grid: what is read is a grid that the arm fits and spelled so, and what was spelled is read again.
use Rattle.std.proofs.Common.{◌≡◌, ℕ, ◌-◌, ◌%◌, ◌^◌, ◌<◌, ◌≤◌, Bool, true, false, cond, ◌&&◌, nat_le, List, [], ◌∷◌, ◌++◌, length, None, Some, Result, Ok, Err, refl, sym, ap, ap₂, subst, ◌∙◌, append_assoc, arith}
use Rattle.std.specs.Int.{w16}
use Rattle.std.proofs.lemmas.Bool.Decides.{nat_tests}
use Rattle.std.proofs.lemmas.List.Sums.{AllPass-from_list_all, list_all-from_AllPass}
use Rattle.drm_num.specs.FirstBroken.{unless, first_of}
use Rattle.drm_arm.specs.declared.arm.Link.{Link}
use Rattle.drm_grid.specs.Layout.{Layout, IsGrid}
use Rattle.drm_grid.specs.Fits.{Fits}
use Rattle.drm_grid.specs.GridFault.{is_side, is_row_count, grid_fault}
use Rattle.drm_grid.specs.declared.grid.GridFault.{GridFault}
use Rattle.drm_grid.specs.declared.grid.GridFault.TheVariants.{Side, Count}
use Rattle.drm_cellmap.specs.MapFaults.{fits}
use Rattle.drm_mapfile.specs.declared.fault.FileFault.{FileFault}
use Rattle.drm_mapfile.specs.declared.fault.FileFault.TheVariants.{Field}
use Rattle.drm_mapfile.specs.Fields.{◌>>=◌, kept, byte_at, number_at, byte_field, number_field}
use Rattle.drm_mapfile.specs.Text.{number, grid_text}
use Rattle.drm_mapfile.specs.Reading.{grid_at}
use Rattle.drm_mapfile.proofs.FieldLaws.{IsBytes, Takes, takes_then, bind_ok, ok_is, on_ok, both, together, wide16, byte_takes, byte_again, number_takes, number_again}

-- ---- the tests

pub fits_so : (grid : Layout) (links : List Link) → Fits grid links → fits grid links ≡ true
fits_so grid links within = list_all-from_AllPass _ links (λ k link below. le_true _ _ (within k link below)) where
  le_true : (a b : ℕ) → a ≤ b → nat_le a b ≡ true
  le_true a b h = grind (arith, nat_tests)

pub fits_means : (grid : Layout) (links : List Link) → fits grid links ≡ true → Fits grid links
fits_means grid links passes = λ k link below. true_le _ _ (AllPass-from_list_all _ links passes k link below) where
  true_le : (a b : ℕ) → nat_le a b ≡ true → a ≤ b
  true_le a b h = grind (arith, nat_tests)

pub fits_not : (grid : Layout) (links : List Link) → (Fits grid links → ⊥) → fits grid links ≡ false
fits_not grid links outside = refuted (fits grid links) (λ passes. outside (fits_means grid links passes)) where
  refuted : (b : Bool) → (b ≡ true → ⊥) → b ≡ false
  refuted true h = absurd (h refl)
  refuted false h = refl

rows_pass : (s r : Bool) → None ≡ first_of (unless s Side ∷ unless r Count ∷ []) → r ≡ true
rows_pass true true h = refl
rows_pass true false h = absurd cc
rows_pass false r h = absurd cc

rows_fail : (s r : Bool) (fault : GridFault) → s ≡ true → Some fault ≡ first_of (unless s Side ∷ unless r Count ∷ []) → r ≡ false
rows_fail true true fault hs h = absurd cc
rows_fail true false fault hs h = refl
rows_fail false r fault hs h = absurd cc

and_false : (a b : Bool) → b ≡ false → (a && b) ≡ false
and_false true b h = h
and_false false b h = refl

first_false : (a b : Bool) → a ≡ false → (a && b) ≡ false
first_false a b h = rw h refl

-- a grid that keeps the rules breaks none, and the other way round
pub no_grid_fault : (side n : ℕ) → is_side side ≡ true → is_row_count n ≡ true → grid_fault side n ≡ None
no_grid_fault side n hs hn = none (is_side side) (is_row_count n) hs hn where
  none : (s r : Bool) → s ≡ true → r ≡ true → first_of (unless s Side ∷ unless r Count ∷ []) ≡ None
  none s r a b = rw (a, b) refl

pub side_of_grid : (grid : Layout) → IsGrid grid → is_side grid.side ≡ true
side_of_grid grid h = passes grid.side h.side.least h.side.most h.side.by_eight where
  passes : (s : ℕ) → 128 ≤ s → s ≤ 1024 → s % 8 ≡ 0 → is_side s ≡ true
  passes s a b c = grind (arith, nat_tests)

pub rows_of_grid : (grid : Layout) → IsGrid grid → is_row_count grid.n ≡ true
rows_of_grid grid h = passes grid.n h.n.least h.n.most h.n.even where
  passes : (n : ℕ) → 2 ≤ n → n ≤ 128 → n % 2 ≡ 0 → is_row_count n ≡ true
  passes n a b c = grind (arith, nat_tests)

grid_is : (side n : ℕ) → is_side side ≡ true → is_row_count n ≡ true → IsGrid (record { side = side; n = n })
grid_is side n hs hn = record {
  side = record { least = side_least side hs; most = side_most side hs; by_eight = side_even side hs };
  n = record { least = n_least n hn; most = n_most n hn; even = n_even n hn };
} where
  side_least : (s : ℕ) → is_side s ≡ true → 128 ≤ s
  side_least s h = grind (arith, nat_tests)

  side_most : (s : ℕ) → is_side s ≡ true → s ≤ 1024
  side_most s h = grind (arith, nat_tests)

  side_even : (s : ℕ) → is_side s ≡ true → s % 8 ≡ 0
  side_even s h = grind (arith, nat_tests)

  n_least : (s : ℕ) → is_row_count s ≡ true → 2 ≤ s
  n_least s h = grind (arith, nat_tests)

  n_most : (s : ℕ) → is_row_count s ≡ true → s ≤ 128
  n_most s h = grind (arith, nat_tests)

  n_even : (s : ℕ) → is_row_count s ≡ true → s % 2 ≡ 0
  n_even s h = grind (arith, nat_tests)

-- ---- reading

abbrev rows_keep : ℕ → List Link → ℕ → Bool
rows_keep side links n = is_row_count n && fits (record { side = side; n = n }) links

abbrev with_rows : ℕ → ℕ × List ℕ → Result (Layout × List ℕ) FileFault
with_rows side n = Ok (record { side = side; n = n.0 }, n.1)

abbrev with_side : ℕ → List Link → ℕ × List ℕ → Result (Layout × List ℕ) FileFault
with_side total links side = byte_field total (rows_keep side.0 links) side.1 >>= with_rows side.0

-- what the code reads, from what it knows of the two fields
pub grid_read : (total : ℕ) (links : List Link) (bytes at_rows rest : List ℕ) (side n : ℕ) (t : Bool) → number_at w16 total bytes ≡ Ok (side, at_rows) → is_side side ≡ true → byte_at total at_rows ≡ Ok (n, rest)
    → rows_keep side links n ≡ t → grid_at total links bytes ≡ cond t (Ok (record { side = side; n = n }, rest)) (Err (Field (total - length at_rows)))
unfolding grid_at
grid_read total links bytes at_rows rest side n t is_number keeps is_byte tested =
    let first : number_field w16 total is_side bytes ≡ Ok (side, at_rows) = on_ok (number_at w16 total bytes) (kept total bytes is_side) (side, at_rows) (Ok (side, at_rows)) is_number (ap (λ (b : Bool). cond b (Ok (side, at_rows)) (Err (Field (total - length bytes)))) keeps) in
    on_ok (number_field w16 total is_side bytes) (with_side total links) (side, at_rows) _ first
    (ap (λ (r : Result (ℕ × List ℕ) FileFault). (r >>= kept total at_rows (rows_keep side links)) >>= with_rows side) is_byte
    ∙ last t tested) where
      last : (b : Bool) → rows_keep side links n ≡ b → (kept total at_rows (rows_keep side links) (n, rest) >>= with_rows side) ≡ cond b (Ok (record { side = side; n = n }, rest)) (Err (Field (total - length at_rows)))
      last true h = ap (λ (b : Bool). cond b (Ok (n, rest)) (Err (Field (total - length at_rows))) >>= with_rows side) h
      last false h = ap (λ (b : Bool). cond b (Ok (n, rest)) (Err (Field (total - length at_rows))) >>= with_rows side) h

side_passes : (s : ℕ) → 128 ≤ s → s ≤ 1024 → s % 8 ≡ 0 → is_side s ≡ true
side_passes s a b c = grind (arith, nat_tests)

-- the grid was made and fits
pub grid_made : (total : ℕ) (links : List Link) (bytes at_rows rest : List ℕ) (side n a b : ℕ) (grid : Layout) → a ≡ side → b ≡ n → number_at w16 total bytes ≡ Ok (side, at_rows) → 128 ≤ a → a ≤ 1024 → a % 8 ≡ 0 → byte_at total at_rows ≡ Ok (n, rest)
    → None ≡ grid_fault a b → grid ≡ record { side = a; n = b } → Fits grid links → grid_at total links bytes ≡ Ok (grid, rest)
grid_made total links bytes at_rows rest side n a b grid same_side same_rows is_number least most by_eight is_byte none_told made_so within =
    let none : None ≡ grid_fault side n = none_told ∙ ap₂ grid_fault same_side same_rows in
    let made : grid ≡ record { side = side; n = n } = made_so ∙ ap₂ (λ (x y : ℕ). record { side = x; n = y }) same_side same_rows in
    let within_made = subst (λ (g : Layout). Fits g links) made within in
    let passes = subst (λ (x : ℕ). is_side x ≡ true) same_side (side_passes a least most by_eight) in
    let rows = together (is_row_count n) (fits (record { side = side; n = n }) links) (rows_pass (is_side side) (is_row_count n) none) (fits_so (record { side = side; n = n }) links within_made) in
    grid_read total links bytes at_rows rest side n true is_number passes is_byte rows ∙ ap (λ (g : Layout). Ok (g, rest)) (sym made)

-- the grid was made and does not fit
pub grid_outside : (total : ℕ) (links : List Link) (bytes at_rows rest : List ℕ) (side n a b : ℕ) (grid : Layout) → a ≡ side → b ≡ n → number_at w16 total bytes ≡ Ok (side, at_rows) → 128 ≤ a → a ≤ 1024 → a % 8 ≡ 0 → byte_at total at_rows ≡ Ok (n, rest)
    → grid ≡ record { side = a; n = b } → (Fits grid links → ⊥) → grid_at total links bytes ≡ Err (Field (total - length at_rows))
grid_outside total links bytes at_rows rest side n a b grid same_side same_rows is_number least most by_eight is_byte made_so outside =
    let made : grid ≡ record { side = side; n = n } = made_so ∙ ap₂ (λ (x y : ℕ). record { side = x; n = y }) same_side same_rows in
    let out = fits_not (record { side = side; n = n }) links (λ within. outside (subst (λ (g : Layout). Fits g links) (sym made) within)) in
    grid_read total links bytes at_rows rest side n false is_number (subst (λ (x : ℕ). is_side x ≡ true) same_side (side_passes a least most by_eight)) is_byte (and_false (is_row_count n) _ out)

-- there is no such grid
pub grid_refused : (total : ℕ) (links : List Link) (bytes at_rows rest : List ℕ) (side n a b : ℕ) (fault : GridFault) → a ≡ side → b ≡ n → number_at w16 total bytes ≡ Ok (side, at_rows) → 128 ≤ a → a ≤ 1024 → a % 8 ≡ 0 → byte_at total at_rows ≡ Ok (n, rest)
    → Some fault ≡ grid_fault a b → grid_at total links bytes ≡ Err (Field (total - length at_rows))
grid_refused total links bytes at_rows rest side n a b fault same_side same_rows is_number least most by_eight is_byte told_so =
    let told : Some fault ≡ grid_fault side n = told_so ∙ ap₂ grid_fault same_side same_rows in
    let passes = subst (λ (x : ℕ). is_side x ≡ true) same_side (side_passes a least most by_eight) in
    grid_read total links bytes at_rows rest side n false is_number passes is_byte (first_false (is_row_count n) _ (rows_fail (is_side side) (is_row_count n) fault passes told))

pub grid_takes : (total : ℕ) (links : List Link) (s : List ℕ) (grid : Layout) (more : List ℕ) → IsBytes s → grid_at total links s ≡ Ok (grid, more) → Takes s (grid_text grid) more × IsGrid grid × Fits grid links
unfolding grid_at
grid_takes total links s grid more fits_bytes e =
    let side = bind_ok (number_field w16 total is_side s) (with_side total links) (grid, more) e in
    let n = bind_ok (byte_field total (rows_keep side.0.0 links) side.0.1) (with_rows side.0.0) (grid, more) side.2 in
    let t0 = number_takes w16 (2 ^ 16) wide16 total is_side s side.0.0 side.0.1 fits_bytes side.1 in
    let t1 = byte_takes total (rows_keep side.0.0 links) side.0.1 n.0.0 n.0.1 t0.0.rest_fits n.1 in
    let p = both (is_row_count n.0.0) (fits (record { side = side.0.0; n = n.0.0 }) links) t1.1 in
    let made : Layout = record { side = side.0.0; n = n.0.0 } in
    subst (λ (y : Layout × List ℕ). Takes s (grid_text y.0) y.1 × IsGrid y.0 × Fits y.0 links) (ok_is (made, n.0.1) (grid, more) n.2)
    (takes_then s (number side.0.0) side.0.1 (n.0.0 ∷ []) n.0.1 t0.0 t1.0, grid_is side.0.0 n.0.0 t0.2 p.0, fits_means made links p.1)

side_small : (s : ℕ) → s ≤ 1024 → s < 2 ^ 16
side_small s h = omega arith

pub grid_again : (total : ℕ) (links : List Link) (grid : Layout) (more : List ℕ) → IsGrid grid → Fits grid links → grid_at total links (grid_text grid ++ more) ≡ Ok (grid, more)
unfolding grid_at
grid_again total links grid more is within =
    ap (grid_at total links) (append_assoc (number grid.side) (grid.n ∷ []) more)
    ∙ on_ok (number_field w16 total is_side (number grid.side ++ (grid.n ∷ more))) (with_side total links) (grid.side, grid.n ∷ more) (Ok (grid, more)) (number_again w16 (2 ^ 16) wide16 total is_side grid.side (grid.n ∷ more) (side_small grid.side is.side.most) (side_of_grid grid is))
    (on_ok (byte_field total (rows_keep grid.side links) (grid.n ∷ more)) (with_rows grid.side) (grid.n, more) (Ok (grid, more)) (byte_again total (rows_keep grid.side links) grid.n more (together (is_row_count grid.n) (fits grid links) (rows_of_grid grid is) (fits_so grid links within))) refl)
