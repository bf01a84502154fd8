-- `judge::coefficient`: the test of its definition, both ways. Assumes nothing.
use mathlib.Core.Path.{sym, ◌∙◌}
use borrow.Author.Tests.{lt-ltb, le-ltb}
use Rattle.loops.specs.laws.ChoiceLaws.{when_true, when_false}
use Rattle.rules.specs.Judge.{coeff}
use Rattle.bdf.proofs.judge.coefficient.Goals as goal

pub returns-then-k-order : goal.returns-then-k-order
unfolding coeff
returns-then-k-order c = c.get.ensures ∙ sym (when_true _ _ (lt-ltb _ _ c.if-k-order.true))

pub returns-else-k-order : goal.returns-else-k-order
unfolding coeff
returns-else-k-order c = sym (when_false _ _ (le-ltb _ _ c.if-k-order.false))
