-- How the occupied cells follow from a table of slots, slot by slot.
use Rattle.std.proofs.Common.{Bool, true, set, ◌≡◌, ◌⊎◌, ◌↔◌, ℕ, zero, suc, ◌+◌, ◌<◌, List, [], ◌∷◌, ◌++◌, length, take, get_or, inl, inr, sym, ◌∙◌, subst, arith, Option, None, Some, length-append}
use Rattle.std.specs.Prelude.{Contains}
use Rattle.std.proofs.lemmas.List.{take_more, get_or_append_left}
use Rattle.std.proofs.lemmas.List.Elements.{Contains-get_or, Contains-push, Contains-push_cases}
use Rattle.drm_num.proofs.Lists.{any_default}
use Rattle.drm_shape.specs.declared.Shape.{Shape}
use Rattle.drm_grid.specs.Layout.{Layout, cell_count}
use Rattle.drm_foot.specs.Foot.{Foot, IsFootprint, IsOccupied}
use Rattle.drm_grid.specs.CellSet.{Has}
use Rattle.drm_grid.proofs.SetLemmas.{Has-slice_set}
use Rattle.drm_foot.specs.Occupied.{HasExactly, Covers, IsCovered}
use Rattle.drm_foot.proofs.FootLemmas.{in_grid_of}

-- an element of a list is one of a longer list
contains_longer : {X : Type 0} (xs : List X) (y x : X) → Contains xs x → Contains (xs ++ y ∷ []) x
contains_longer xs y x (k, below, is) = (k, omega (arith, length-append xs (y ∷ [])), get_or_append_left xs (y ∷ []) x k below ∙ is)

-- the elements so far, with the next one
pub contains_take : {X : Type 0} (xs : List X) (i : ℕ) (d x : X) → i < length xs → Contains (take (i + 1) xs) x ↔ (Contains (take i xs) x ⊎ (get_or xs i d ≡ x))
contains_take xs i d x below = (
  λ has. Contains-push_cases (take i xs) (get_or xs i d) x (subst (λ (ys : List _). Contains ys x) (take_more xs i d below) has),
  λ s. subst (λ (ys : List _). Contains ys x) (sym (take_more xs i d below))
      (elim s [
        | inl old ↦ contains_longer (take i xs) (get_or xs i d) x old
        | inr is ↦ subst (λ (y : _). Contains (take i xs ++ get_or xs i d ∷ []) y) is (Contains-push (take i xs) (get_or xs i d))
      ]),
)

-- the cells that the slots so far occupy, with those of the next one
pub covered_take : (grid : Layout) (table : List (Option Shape)) (i cell : ℕ) (d : Option Shape) → i < length table → IsCovered grid (take (i + 1) table) cell ↔ (IsCovered grid (take i table) cell ⊎ Covers grid (get_or table i d) cell)
covered_take grid table i cell d below = (
  λ covered. elim ((contains_take table i d (Some covered.0) below).0 covered.1) [
    | inl old ↦ inl (covered.0, old, covered.2)
    | inr is ↦ inr (covered.0, is, covered.2)
  ],
  λ s. elim s [
    | inl old ↦ (old.0, (contains_take table i d (Some old.0) below).1 (inl old.1), old.2)
    | inr new ↦ (new.0, (contains_take table i d (Some new.0) below).1 (inr new.1), new.2)
  ],
)

-- no slot occupies anything
pub covered_none : (grid : Layout) (cell : ℕ) → ¬ IsCovered grid [] cell
covered_none grid cell (shape, (k, below, is), foot) = absurd (omega arith)

-- one more cell was added
pub marked_next : (first marked : List Bool) (cells : List ℕ) (i : ℕ) → i < length cells → get_or cells i 0 < length marked → ((c : ℕ) → Has marked c ↔ (Has first c ⊎ Contains (take i cells) c)) → (c : ℕ) → Has (set marked (get_or cells i 0) true) c ↔ (Has first c ⊎ Contains (take (i + 1) cells) c)
marked_next first marked cells i below small so_far c =
    let insert = Has-slice_set marked (get_or cells i 0) c small in
    let more = contains_take cells i 0 c below in (
      λ has. elim (insert.0 has) [
        | inl is ↦ inr (more.1 (inr (sym is)))
        | inr old ↦ elim ((so_far c).0 old) [ inl before ↦ inl before | inr among ↦ inr (more.1 (inl among)) ]
      ],
      λ s. insert.1 (elim s [
        | inl before ↦ inr ((so_far c).1 (inl before))
        | inr among ↦ elim (more.0 among) [ inl old ↦ inr ((so_far c).1 (inr old)) | inr is ↦ inl (sym is) ]
      ]),
    )

-- the cells of one more slot were added
pub covered_next : (grid : Layout) (table : List (Option Shape)) (i size : ℕ) (old new : List Bool) → i < length table → HasExactly size (IsCovered grid (take i table)) old → length new ≡ length old → ((c : ℕ) → Has new c ↔ (Has old c ⊎ Covers grid (get_or table i None) c)) → HasExactly size (IsCovered grid (take (i + 1) table)) new
covered_next grid table i size old new below so_far same added = record {
  size = same ∙ so_far.size;
  exact = λ c.
      let more = covered_take grid table i c None below in (
        λ has. more.1 (elim ((added c).0 has) [
          | inl before ↦ inl ((so_far.exact c).0 before)
          | inr new ↦ inr new
        ]),
        λ covered. (added c).1 (elim (more.0 covered) [
          | inl before ↦ inl ((so_far.exact c).1 before)
          | inr new ↦ inr new
        ]),
      );
}

-- a footprint lies on the grid
pub footprint_on_grid : (grid : Layout) (shape : Shape) (cells lent : List ℕ) → lent ≡ cells → IsFootprint grid shape cells → (k d : ℕ) → k < length lent → get_or lent k d < cell_count grid
footprint_on_grid grid shape cells lent same footprint k d below =
    let among : Contains cells (get_or lent k d) = subst (λ (cs : List ℕ). Contains cs (get_or lent k d)) same (Contains-get_or lent k d below) in
    in_grid_of grid shape (get_or lent k d) ((footprint.exact (get_or lent k d)).0 among)

-- the cells of the footprint were added
pub footprint_marked : (grid : Layout) (shape : Shape) (cells lent : List ℕ) (slot : Option Shape) (old new : List Bool) → lent ≡ cells → slot ≡ Some shape → IsFootprint grid shape cells → ((c : ℕ) → Has new c ↔ (Has old c ⊎ Contains lent c)) → (c : ℕ) → Has new c ↔ (Has old c ⊎ Covers grid slot c)
footprint_marked grid shape cells lent slot old new same is footprint added c = (
  λ has. elim ((added c).0 has) [
    | inl before ↦ inl before
    | inr among ↦ inr (shape, is, (footprint.exact c).0 (subst (λ (cs : List ℕ). Contains cs c) same among))
  ],
  λ s. (added c).1 (elim s [
    | inl before ↦ inl before
    | inr covers ↦ inr (subst (λ (cs : List ℕ). Contains cs c) (sym same) ((footprint.exact c).1 (subst (λ (sh : Shape). Foot grid sh c) (only covers.0 (sym covers.1 ∙ is)) covers.2)))
  ]),
)
  where
    only : (other : Shape) → Some other ≡ Some shape → other ≡ shape
    only other e = cc

-- a place that holds something is within the table
within_table : (table : List (Option Shape)) (k : ℕ) (shape : Shape) → get_or table k None ≡ Some shape → k < length table
within_table [] zero shape is = absurd (cc)
within_table [] (suc k) shape is = absurd (cc)
within_table (first ∷ table) zero shape is = omega arith
within_table (first ∷ table) (suc k) shape is = let rest = within_table table k shape is in omega arith

-- a table covers the cells that are occupied by what its slots hold
pub covered_is_occupied : (grid : Layout) (table : List (Option Shape)) (held : ℕ → Option Shape) → ((slot : ℕ) → get_or table slot None ≡ held slot)
    → (cell : ℕ) → IsCovered grid table cell ↔ IsOccupied grid (λ shape. (slot : ℕ) × (held slot ≡ Some shape)) cell
covered_is_occupied grid table held same cell =
    (λ covered. (covered.0, stands covered.0 covered.1, covered.2), λ occupied. (occupied.0, holds occupied.0 occupied.1, occupied.2))
  where
    stands : (shape : Shape) → Contains table (Some shape) → (slot : ℕ) × (held slot ≡ Some shape)
    stands shape (k, below, is) = (k, sym (same k) ∙ any_default table k None (Some shape) below ∙ is)

    holds : (shape : Shape) → ((slot : ℕ) × (held slot ≡ Some shape)) → Contains table (Some shape)
    holds shape (slot, is) =
        let has : get_or table slot None ≡ Some shape = same slot ∙ is in
        let below = within_table table slot shape has in
        (slot, below, any_default table slot (Some shape) None below ∙ has)
