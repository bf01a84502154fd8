-- `polynomial::product_at` goes by the same test as its definition. Assumes nothing.
use mathlib.Core.Path.{sym}
use borrow.Author.Tests.{eq-eqb, ne_eqb}
use Rattle.loops.specs.laws.ChoiceLaws.{when_true, when_false}
use Rattle.interpolation.specs.Interpolate.{product_at}
use Rattle.interpolation.proofs.polynomial.product_at.Goals as goal

pub returns-then-k-eq0 : goal.returns-then-k-eq0
unfolding product_at
returns-then-k-eq0 c = sym (when_true _ _ (eq-eqb _ _ c.if-k-eq0.true))

pub returns-else-k-eq0 : goal.returns-else-k-eq0
unfolding product_at
returns-else-k-eq0 c = sym (when_false _ _ (ne_eqb _ _ c.if-k-eq0.false))
