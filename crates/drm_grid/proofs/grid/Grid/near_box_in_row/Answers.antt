-- The two gaps are those between the box and the cell's column and row: what the row's number leaves of the cell's is its column.
use Rattle.std.proofs.Common.{FitsSigned, w64, rules, ◌≡◌, ◌+◌, ◌-◌, ◌*◌, ◌%◌, ◌+ℤ◌, ◌*ℤ◌, ap, ◌∙◌, sym, subst, arith, ℤ, ℕ}
use Rattle.std.proofs.lemmas.Int.{to_z-of_z, ints}
use Rattle.std.proofs.lemmas.Nat.{div-add-mod'}
use Rattle.drm_num.specs.Interval.{Interval, unit}
use Rattle.drm_num.specs.Arithmetic.{gap}
use Rattle.drm_num.proofs.Integers.{along}
use Rattle.drm_grid.specs.Strips.{strip}
use Rattle.drm_grid.specs.Near.{gap_across, gap_up}
use Rattle.drm_grid.proofs.grid.Grid.near_box_in_row.Goals as goal

pub returns : goal.returns
returns c =
    let across_fits : FitsSigned w64 c.gap.result = search rules in
    let up_fits : FitsSigned w64 c.gap-2.result = search rules in
    let place : c.args.row * c.args.self.now.n + c.args.cell % c.args.self.now.n ≡ c.args.cell =
    subst (λ (row : ℕ). row * c.args.self.now.n + c.args.cell % c.args.self.now.n ≡ c.args.cell) (sym c.requires.row) (div-add-mod' c.args.cell c.args.self.now.n) in
    let left : c.args.cell - c.args.row * c.args.self.now.n ≡ c.args.cell % c.args.self.now.n = omega arith in
    let column : c.gap.result ≡ gap_across c.args.self.now c.args.x c.args.cell =
    c.gap.ensures.value ∙ ap (λ (s : Interval). gap c.args.x s) (c.strip.ensures.value ∙ ap (λ (n : ℕ). strip c.args.self.now (c.args.cell - c.args.row * n)) c.n.ensures.exact ∙ ap (λ (k : ℕ). strip c.args.self.now k) left) in
    let row : c.gap-2.result ≡ gap_up c.args.self.now c.args.y c.args.cell =
    c.gap-2.ensures.value ∙ ap (λ (s : Interval). gap c.args.y s) (c.strip-2.ensures.value ∙ ap (λ (k : ℕ). strip c.args.self.now k) c.requires.row) in
    let gx = gap_across c.args.self.now c.args.x c.args.cell in
    let gy = gap_up c.args.self.now c.args.y c.args.cell in
    let squares : (c.gap.result *ℤ c.gap.result) +ℤ (c.gap-2.result *ℤ c.gap-2.result) ≡ (gx *ℤ gx) +ℤ (gy *ℤ gy) =
    ap (λ (g : ℤ). (g *ℤ g) +ℤ (c.gap-2.result *ℤ c.gap-2.result)) column ∙ ap (λ (g : ℤ). (gx *ℤ gx) +ℤ (g *ℤ g)) row in
    let far = c.requires.far in
    let units = c.from.ensures in
    let from_fits : FitsSigned w64 c.from.result = search rules in
    let far_fits : FitsSigned w64 (c.from.result *ℤ unit) = omega (arith, ints) in
    let tested = simp to_z-of_z at c.is_within.ensures in
    let whole = ap (λ (n : ℤ). (n *ℤ unit) *ℤ (n *ℤ unit)) units in (
      (λ yes. record { near = along squares whole (tested.0 yes) }),
      (λ is. tested.1 (along (sym squares) (sym whole) is.near)),
    )
