-- `checks::limited` goes by the tests of its definition, one answer a way. Assumes nothing.
use Rattle.std.proofs.Common.{eq-eqb, ne_eqb, lt-ltb, le-ltb}
use Rattle.loops.specs.Choice.{when◌then◌else◌}
use Rattle.rules.specs.Checks.{limited}
use Rattle.bdf.proofs.checks.limited.Goals as goal
use Rattle.bdf.proofs.checks.limited.Goals.{then-s-gt1000000-via-then-s-gt1000000, then-s-gt1000000-via-else-s-gt1000000+then-s-gt64}

pub returns-then-s-eq0 : goal.returns-then-s-eq0
unfolding limited when◌then◌else◌
returns-then-s-eq0 c = rw (eq-eqb _ _ c.if-s-eq0.true)

pub returns-then-s-gt1000000 : goal.returns-then-s-gt1000000
unfolding limited when◌then◌else◌
returns-then-s-gt1000000 c =
    rw (ne_eqb _ _ c.if-s-eq0.false)
    (elim c.then-s-gt1000000.branch [
      | then-s-gt1000000-via-then-s-gt1000000 w ↦ rw (lt-ltb _ _ w.if-s-gt1000000.true)
      | then-s-gt1000000-via-else-s-gt1000000+then-s-gt64 w ↦ rw (le-ltb _ _ w.if-s-gt1000000.false, lt-ltb _ _ w.if-s-gt64.true)
    ])

pub returns : goal.returns
unfolding limited when◌then◌else◌
returns c = rw (ne_eqb _ _ c.if-s-eq0.false, le-ltb _ _ c.if-s-gt1000000.false, le-ltb _ _ c.if-s-gt64.false) c.zero_step.ensures
