-- `lu::magnitude` meets its contract: each way returns what the definition chooses by the same test. Assumes nothing.
use mathlib.Core.Path.{sym}
use Rattle.loops.specs.laws.ChoiceLaws.{when_true, when_false}
use Rattle.matrix.specs.Magnitude.{magnitude_of}
use Rattle.matrix.proofs.lu.magnitude.Goals as goal

pub returns-then-x : goal.returns-then-x
unfolding magnitude_of
returns-then-x c = sym (when_true _ _ c.if-x.true)

pub returns-else-x : goal.returns-else-x
unfolding magnitude_of
returns-else-x c = sym (when_false _ _ c.if-x.false)
