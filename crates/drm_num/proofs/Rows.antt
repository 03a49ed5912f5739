-- Numbers that are counted row by row, n to a row.
use Rattle.std.proofs.Common.{◌≡◌, ℕ, ◌+◌, ◌-◌, ◌*◌, ◌/◌, ◌%◌, ◌<◌, ◌≤◌, ◌↔◌, ap, sym, ◌∙◌, arith}
use Rattle.std.proofs.lemmas.Nat.{div-mul-add, mod-mul-add, div-add-mod'}

-- the numbers of a row from column a up to column b
pub row_cells : (n row a b c : ℕ) → b ≤ n → ((row * n + a ≤ c) × (c < row * n + b)) ↔ ((c / n ≡ row) × (a ≤ c % n) × (c % n < b))
row_cells n row a b c within = (
  (λ (low, high).
      let column = c - row * n in
      let small : column < n = omega arith in
      let place : row * n + column ≡ c = omega arith in
      let quotient = div-mul-add row n column small in
      let rest = mod-mul-add row n column small in
      let e : c / n ≡ row = ap (λ (m : ℕ). m / n) (sym place) ∙ quotient in
      let r : c % n ≡ column = ap (λ (m : ℕ). m % n) (sym place) ∙ rest in
      (e, omega arith, omega arith)),
  (λ (e, low, high).
      let whole = div-add-mod' c n in
      let place : row * n + c % n ≡ c = ap (λ (q : ℕ). q * n + c % n) (sym e) ∙ whole in
      (omega arith, omega arith)),
)
