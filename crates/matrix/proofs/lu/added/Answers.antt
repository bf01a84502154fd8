-- `lu::added` meets its contract: each way returns what the definition chooses by the same test. Assumes nothing.
use mathlib.Core.Path.{sym}
use Rattle.loops.specs.laws.ChoiceLaws.{when_true, when_false}
use Rattle.matrix.specs.Rows.{added_of}
use Rattle.matrix.proofs.lu.added.Goals as goal

pub returns-then-t : goal.returns-then-t
unfolding added_of
returns-then-t c = sym (when_true _ _ c.if-t.true)

pub returns-else-t : goal.returns-else-t
unfolding added_of
returns-else-t c = sym (when_false _ _ c.if-t.false)
