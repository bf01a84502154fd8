-- `number::min` meets its contract: its three ways are those of the definition, by the same tests. Assumes nothing.
use mathlib.Core.Path.{sym, ◌∙◌}
use Rattle.loops.specs.laws.ChoiceLaws.{when_true, when_false}
use Rattle.number.specs.Helpers.{min_of}
use Rattle.number.proofs.helpers.min.Goals as goal

pub returns-then-x : goal.returns-then-x
unfolding min_of
returns-then-x c = sym (when_true _ _ c.if-x.true)

pub returns-then-y-x : goal.returns-then-y-x
unfolding min_of
returns-then-y-x c = sym (when_false _ _ c.if-x.false ∙ when_true _ _ c.if-y-x.true)

pub returns-else-y-x : goal.returns-else-y-x
unfolding min_of
returns-else-y-x c = sym (when_false _ _ c.if-x.false ∙ when_false _ _ c.if-y-x.false)
