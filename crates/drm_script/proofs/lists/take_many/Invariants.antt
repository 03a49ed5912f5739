-- what is left gives with what was read what all gives
use Rattle.std.proofs.Common.{◌≡◌, ◌-◌, []}
use Rattle.drm_script.specs.Reader.{many_at}
use Rattle.drm_script.proofs.lists.take_many.Given as goal

abbrev pub invariant-loop-at : goal.invariant-loop-at
invariant-loop-at g l = record {
  values : many_at g.T.Field.at (l.count - l._at) l.values.items l.words.words ≡ many_at g.T.Field.at l.count [] l.initial.words.words;
  behind : l.words.behind ≡ l.initial.words.behind;
}
