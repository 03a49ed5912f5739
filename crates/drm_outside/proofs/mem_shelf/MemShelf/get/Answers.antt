use Rattle.std.proofs.Common.{sym, ap, ◌∙◌, option_map, option_copied, Some}
use Rattle.drm_outside.specs.MemShelf.{held_by}
use Rattle.drm_outside.proofs.ShelfLemmas.{told_by_map}
use Rattle.drm_outside.proofs.mem_shelf.MemShelf.get.Goals as goal

pub returns-in-Some : goal.returns-in-Some
returns-in-Some c =
    let name = c.args.name.now in
    sym (ap (λ s. held_by s name) (sym c.self.view_is) ∙ told_by_map (λ bytes. bytes.items) name c.self.inside.names
    ∙ ap (option_map (λ bytes. bytes.items)) (sym c.get.ensures.value ∙ ap option_copied c.in-Some.is) ∙ ap Some (sym c.as_slice.ensures.value))

pub returns-in-None : goal.returns-in-None
returns-in-None c =
    let name = c.args.name.now in
    sym (ap (λ s. held_by s name) (sym c.self.view_is) ∙ told_by_map (λ bytes. bytes.items) name c.self.inside.names
    ∙ ap (option_map (λ bytes. bytes.items)) (sym c.get.ensures.value ∙ ap option_copied c.in-None.is))
