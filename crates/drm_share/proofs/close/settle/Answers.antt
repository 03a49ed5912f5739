-- The joined shares are the book's total, which is the history's length.
use Rattle.std.proofs.Common.{◌≡◌, List, length, sym, ◌∙◌, ap, subst}
use Rattle.std.specs.List.{sum_by}
use Rattle.drm_talk.specs.declared.Entry.{Entry}
use Rattle.drm_talk.specs.History.{IsLegal}
use Rattle.drm_share.specs.Closing.{Closes}
use Rattle.drm_share.specs.Seen.{Seen}
use Rattle.drm_share.proofs.ClosingLemmas.{one_each_many, own_exact}
use Rattle.drm_share.proofs.close.settle.Goals as goal

pub returns : goal.returns
returns g c =
    let many = one_each_many g.L.Ledger.parts c.args.passes.items c.requires in
    let whole : c.gather.new.rest.amount ≡ c.locked.inside.book.total = c.audit.ensures.whole (c.gather.ensures.parts ∙ many) in
    let total : sum_by (λ (seen : Seen). length seen.own) c.args.passes.items ≡ length c.desk.inside.tail =
    sym c.gather.ensures.amount ∙ (whole ∙ (c.locked.invariant.0 ∙ ap length (sym c.desk.view_is))) in
    let closes : Closes c.args.passes.items c.desk.inside.tail = record {
      legal = subst (λ (h : List Entry). IsLegal h) c.gather.ensures.same c.number.ensures.counted.legal;
      fronts = λ k d below. (c.gather.ensures.parts_of k d below).front;
      total = total;
      exact = own_exact c.desk.inside.tail g.L.Ledger.parts c.args.passes.items c.requires (λ k d below. (c.gather.ensures.parts_of k d below).own) total;
    } in
    subst (λ (h : List Entry). Closes c.args.passes.items h) (c.desk.view_is ∙ c.locked.view_is) closes
