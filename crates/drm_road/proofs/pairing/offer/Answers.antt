use Rattle.std.proofs.Common.{◌≡◌, ◌-◌, ◌≤◌, suc, List, length, sym, ◌∙◌, ap, take, arith}
use Rattle.std.specs.List.{insert}
use Rattle.drm_road.specs.declared.pairing.Place.{Place}
use Rattle.drm_road.proofs.ListLemmas.{insert-take, take-insert_end}
use Rattle.drm_road.proofs.pairing.offer.Goals as goal

pub returns-then-at-near : goal.returns-then-at-near
returns-then-at-near c =
    let within : c.rank-at.result ≤ length c.args.best.now.items = rw c.deref.ensures.value at c.rank-at.ensures.within in
    let few = c.requires.few in
    let full = c.if-at-near.true in
    let end : c.args.near ≡ length c.args.best.now.items = omega arith in
    record {
      at = c.rank-at.result;
      within = within;
      below = rw c.deref.ensures.value at c.rank-at.ensures.below;
      above = rw c.deref.ensures.value at c.rank-at.ensures.above;
      is = rw full (sym (take-insert_end c.args.best.now.items c.args.near c.args.place end));
    }

pub returns : goal.returns
returns c =
    let within : c.rank-at.result ≤ length c.args.best.now.items = rw c.deref.ensures.value at c.rank-at.ensures.within in
    let few = c.requires.few in
    let some = c.requires.near in
    let room = c.if-at-near.false in
    let at_most : c.rank-at.result ≤ c.args.near - 1 = grind arith in
    let whole : suc (c.args.near - 1) ≡ c.args.near = omega arith in
    let put : c.insert.new.self.items ≡ insert (take (c.args.near - 1) c.args.best.now.items) c.rank-at.result c.args.place = c.in_ok-insert.ensures.items ∙ ap (λ (xs : List Place). insert xs c.rank-at.result c.args.place) c.truncate.ensures.items in
    record {
      at = c.rank-at.result;
      within = within;
      below = rw c.deref.ensures.value at c.rank-at.ensures.below;
      above = rw c.deref.ensures.value at c.rank-at.ensures.above;
      is = put ∙ (insert-take c.args.best.now.items c.rank-at.result (c.args.near - 1) c.args.place at_most within ∙ ap (λ n. take n (insert c.args.best.now.items c.rank-at.result c.args.place)) whole);
    }
