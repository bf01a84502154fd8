-- `checks::tolerances_checked` goes by the tests of its definition, one answer a way. Assumes nothing.
use Rattle.loops.specs.Choice.{when◌then◌else◌}
use Rattle.rules.specs.Checks.{tolerances_checked}
use Rattle.std.proofs.Common.{rules}
use Rattle.bdf.proofs.checks.tolerances_checked.Goals as goal
use Rattle.bdf.proofs.checks.tolerances_checked.Goals.{then-not-reaches-via-then-not-reaches, then-not-reaches-via-else-not-reaches+then-not-reaches-2}

pub returns-then-not-reaches : goal.returns-then-not-reaches
unfolding tolerances_checked when◌then◌else◌
returns-then-not-reaches c =
    elim c.then-not-reaches.branch [
      | then-not-reaches-via-then-not-reaches w ↦ rw (← c.reaches.ensures, w.if-not-reaches.true)
      | then-not-reaches-via-else-not-reaches+then-not-reaches-2 w ↦
          rw (← c.reaches.ensures, w.if-not-reaches.false, ← w.reaches-else-not-reaches.ensures, w.if-not-reaches-2.true)
    ]

pub returns-in_err-negative : goal.returns-in_err-negative
unfolding tolerances_checked when◌then◌else◌
returns-in_err-negative c =
    rw (← c.reaches.ensures, c.if-not-reaches.false, ← c.reaches-else-not-reaches.ensures, c.if-not-reaches-2.false, ← c.negative.ensures, c.in_err-negative.was)
    (search rules)

pub returns : goal.returns
unfolding tolerances_checked when◌then◌else◌
returns c =
    rw (← c.reaches.ensures, c.if-not-reaches.false, ← c.reaches-else-not-reaches.ensures, c.if-not-reaches-2.false, ← c.negative.ensures, c.in_ok-negative.was)
    c.limited.ensures
