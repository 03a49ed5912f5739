use Rattle.std.proofs.Common.{◌≡◌, Some, sym, ap, ◌∙◌}
use Rattle.std.specs.String.{string_bytes}
use Rattle.drm_outside.specs.MemShelf.{held_by}
use Rattle.drm_outside.proofs.ShelfLemmas.{told_here, told_elsewhere}
use Rattle.drm_outside.proofs.mem_shelf.MemShelf.set.Goals as goal

-- the key has the name's bytes, and the value is the bytes
pub returns-clause-put : goal.returns-clause-put
returns-clause-put c =
    let key = string_bytes c.in_ok-key.key in
    let named : key ≡ c.args.name.now = c.in_ok-key.ensures.ok in
    let here = told_here (λ v. v.items) key c.self.inside.names c.insert.new.self c.in_ok-value.value c.in_ok-insert.ensures.updates in
    let elsewhere = told_elsewhere (λ v. v.items) key c.self.inside.names c.insert.new.self c.in_ok-value.value c.in_ok-insert.ensures.updates in
    let old = sym c.self.view_is in (
      record {
        here = rw (← named) here ∙ ap Some c.in_ok-value.ensures.items;
        others = λ other apart. elsewhere other (λ same. apart (same ∙ named)) ∙ ap (λ s. held_by s other) c.self.view_is;
        plan = ap (λ s. s.failing) c.self.view_is;
        faults = ap (λ s. s.faults) c.self.view_is;
      },
      ap (λ s. s.calls) c.self.view_is,
    )
