use Rattle.std.proofs.Common.{◌≡◌, ℕ, ◌+◌, ◌-◌, ◌≤◌, length, take, drop, arith, ap, sym, ◌∙◌, length-append, length-take, length-drop}
use Rattle.std.proofs.lemmas.List.{take_rest, drop_all}
use Rattle.drm_outside.proofs.KnownLemmas.{left-split}
use Rattle.drm_outside.proofs.mem_source.MemSourceSource.read.Goals as goal

pub returns-clause-bytes : goal.returns-clause-bytes
returns-clause-bytes c =
    let n = c.min-count.result in
    let given = c.self.inside.given in
    let bytes = c.self.inside.bytes in
    let rest : take (length c.as_slice-2.result.now - given) (drop given c.as_slice-2.result.now) ≡ drop given bytes =
    ap (λ xs. take (length xs - given) (drop given xs)) c.as_slice-2.ensures ∙ take_rest bytes given in
    let within : n ≤ length (drop given bytes) = omega (arith, c.min-count.ensures, ap length rest) in
    let front : c.copy_from_slice.new.self ≡ take n (drop given bytes) = c.copy_from_slice.ensures.after ∙ ap (take n) rest in (
      sym (ap (λ s. s.left) c.self.view_is) ∙ left-split bytes _ _ given n within front,
      λ none room.
          let all : length bytes ≤ given + n = omega (arith, c.self.invariant, c.min-count.ensures, ap length rest, c.copy_from_slice.ensures.len, length-append {A = ℕ}, length-drop {A = ℕ}, length-take {A = ℕ}) in
          drop_all (given + n) bytes all,
    )
