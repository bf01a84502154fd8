-- `polynomial::order_of` goes by the same tests as its definition, and tells a NaN by its differing from itself. Assumes nothing.
use Rattle.loops.specs.Choice.{when◌then◌else◌}
use Rattle.std.proofs.Common.{sym, ◌∙◌}
use Rattle.interpolation.specs.Interpolate.{order_of}
use Rattle.interpolation.proofs.polynomial.order_of.Goals as goal

pub returns-then-is_nan : goal.returns-then-is_nan
unfolding order_of when◌then◌else◌
returns-then-is_nan c = rw (sym c.is_nan.ensures.value ∙ c.if-is_nan.true)

pub returns-then-mark : goal.returns-then-mark
unfolding order_of when◌then◌else◌
returns-then-mark c = rw (sym c.is_nan.ensures.value ∙ c.if-is_nan.false, c.if-mark.true)

pub returns-then-mark-2 : goal.returns-then-mark-2
unfolding order_of when◌then◌else◌
returns-then-mark-2 c = rw (sym c.is_nan.ensures.value ∙ c.if-is_nan.false, c.if-mark.false, c.if-mark-2.true)

pub returns-then-mark-3 : goal.returns-then-mark-3
unfolding order_of when◌then◌else◌
returns-then-mark-3 c = rw (sym c.is_nan.ensures.value ∙ c.if-is_nan.false, c.if-mark.false, c.if-mark-2.false, c.if-mark-3.true)

pub returns-then-mark-4 : goal.returns-then-mark-4
unfolding order_of when◌then◌else◌
returns-then-mark-4 c =
    rw (sym c.is_nan.ensures.value ∙ c.if-is_nan.false, c.if-mark.false, c.if-mark-2.false, c.if-mark-3.false, c.if-mark-4.true)

pub returns-else-mark-4 : goal.returns-else-mark-4
unfolding order_of when◌then◌else◌
returns-else-mark-4 c =
    rw (sym c.is_nan.ensures.value ∙ c.if-is_nan.false, c.if-mark.false, c.if-mark-2.false, c.if-mark-3.false, c.if-mark-4.false)
