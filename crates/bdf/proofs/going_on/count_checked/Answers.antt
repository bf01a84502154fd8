-- `going_on::count_checked` goes by the tests of its definition, one answer a way. Assumes nothing.
use Rattle.std.proofs.Common.{lt-ltb, le-ltb}
use Rattle.loops.specs.Choice.{when◌then◌else◌}
use Rattle.bdf.proofs.going_on.count_checked.Goals as goal
use Rattle.bdf.proofs.going_on.count_checked.Goals.{then-room-row-via-then-room-row, then-room-row-via-else-room-row+then-questions-n, then-room-row-via-else-room-row+else-questions-n+then-given-count}

pub returns-then-room-row : goal.returns-then-room-row
unfolding when◌then◌else◌
returns-then-room-row c =
    rw (rw c.in_ok-count.was at c.ok_or.ensures.ok_part, ← c.row.ensures)
    (elim c.then-room-row.branch [
      | then-room-row-via-then-room-row w ↦ rw (lt-ltb _ _ w.if-room-row.true)
      | then-room-row-via-else-room-row+then-questions-n w ↦ rw (le-ltb _ _ w.if-room-row.false, lt-ltb _ _ w.if-questions-n.true)
      | then-room-row-via-else-room-row+else-questions-n+then-given-count w ↦
          rw (le-ltb _ _ w.if-room-row.false, le-ltb _ _ w.if-questions-n.false, lt-ltb _ _ w.if-given-count.true)
    ])

pub returns : goal.returns
unfolding when◌then◌else◌
returns c =
    rw (rw c.in_ok-count.was at c.ok_or.ensures.ok_part, ← c.row.ensures, le-ltb _ _ c.if-room-row.false, le-ltb _ _ c.if-questions-n.false, le-ltb _ _ c.if-given-count.false)
