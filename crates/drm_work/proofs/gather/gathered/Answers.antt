-- The replies of a caller alone are in the order of the log.
use Rattle.std.proofs.Common.{◌≡◌, List, [], ◌∷◌, ◌++◌, length, length-append, ap, sym, ◌∙◌, subst, arith, Option, Vec}
use Rattle.std.specs.Option.{option_to_list}
use Rattle.std.specs.declared.alloc.Global.{Global}
use Rattle.std.proofs.lemmas.List.{nil_from_length}
use Rattle.drm_talk.specs.declared.Reply.{Reply as Told}
use Rattle.drm_report.specs.Gathering.{AreGathered}
use Rattle.drm_work.specs.Told.{AreTold, rows_of}
use Rattle.drm_work.proofs.GatherLemmas.{alone_gathered}
use Rattle.drm_work.proofs.gather.gathered.Goals as goal

pub returns-in-Some : goal.returns-in-Some
returns-in-Some c =
    let left = c.pop.new.self.items in
    let items : c.args.told.items ≡ left ++ c.in-Some.mine ∷ [] =
    c.pop.ensures.items ∙ ap (λ (o : Option (Vec Told Global)). left ++ option_to_list o) c.in-Some.is in
    let long = ap length items ∙ length-append left (c.in-Some.mine ∷ []) in
    let none : left ≡ [] = nil_from_length left (omega (arith, long, c.if-len-eq1.true, c.len.ensures, c.args.told.ok.0)) in
    let one : rows_of c.args.told.items ≡ c.in-Some.mine.items ∷ [] = ap rows_of (items ∙ ap (λ (rows : List (Vec Told Global)). rows ++ c.in-Some.mine ∷ []) none) in
    let whole = alone_gathered c.args.lines.now c.in-Some.mine.items (subst (AreTold c.args.lines.now) one c.requires) in
    rw c.from_vec.ensures (subst (λ (rows : List (List Told)). AreGathered c.args.lines.now rows c.in-Some.mine.items) (sym one) whole)
