-- `number::max` meets its contract: its three ways are those of the definition, by the same tests. Assumes nothing.
use mathlib.Core.Path.{sym, ◌∙◌}
use Rattle.loops.specs.laws.ChoiceLaws.{when_true, when_false}
use Rattle.number.specs.Helpers.{max_of}
use Rattle.number.proofs.helpers.max.Goals as goal

pub returns-then-x : goal.returns-then-x
unfolding max_of
returns-then-x c = sym (when_true _ _ c.if-x.true)

pub returns-then-x-y : goal.returns-then-x-y
unfolding max_of
returns-then-x-y c = sym (when_false _ _ c.if-x.false ∙ when_true _ _ c.if-x-y.true)

pub returns-else-x-y : goal.returns-else-x-y
unfolding max_of
returns-else-x-y c = sym (when_false _ _ c.if-x.false ∙ when_false _ _ c.if-x-y.false)
