-- `going_on::damaged` goes by the tests of its definition, one answer a way. Assumes nothing.
use borrow.Author.Tests.{lt-ltb, le-ltb, eq-eqb, ne_eqb}
use Rattle.loops.specs.Choice.{when◌then◌else◌}
use Rattle.rules.specs.GoOn.{damaged}
use Rattle.bdf.proofs.going_on.damaged.Goals as goal

pub returns-then-p-gt-MAX_N : goal.returns-then-p-gt-MAX_N
unfolding damaged when◌then◌else◌
returns-then-p-gt-MAX_N c = rw (lt-ltb _ _ c.if-p-gt-MAX_N.true)

pub returns-then-p-eq0 : goal.returns-then-p-eq0
unfolding damaged when◌then◌else◌
returns-then-p-eq0 c = rw (le-ltb _ _ c.if-p-gt-MAX_N.false, eq-eqb _ _ c.if-p-eq0.true, ← c.is_ended.ensures)

pub returns : goal.returns
unfolding damaged when◌then◌else◌
returns c = rw (le-ltb _ _ c.if-p-gt-MAX_N.false, ne_eqb _ _ c.if-p-eq0.false) c.damaged_above_0.ensures
