-- `starting::raw_guess`: the two tests of its definition, each way. Where the first passes, so does the whole. Assumes nothing.
use Rattle.loops.specs.Choice.{when◌then◌else◌}
use Rattle.rules.specs.Starting.{raw_guess}
use Rattle.bdf.proofs.starting.raw_guess.Goals as goal
use Rattle.bdf.proofs.starting.raw_guess.Goals.{then-dnf, else-dnf}

pub returns-then-dny : goal.returns-then-dny
unfolding raw_guess when◌then◌else◌
returns-then-dny c = elim c.if-dnf.branch [ then-dnf w ↦ rw w.if-dnf.true | else-dnf w ↦ rw (w.if-dnf.false, ← w.value-is, c.if-dny.true) ]

pub returns-else-dny : goal.returns-else-dny
unfolding raw_guess when◌then◌else◌
returns-else-dny c = elim c.if-dnf.branch [ then-dnf w ↦ cc (w.if-dnf.true, w.value-is, c.if-dny.false) | else-dnf w ↦ rw (w.if-dnf.false, ← w.value-is, c.if-dny.false, c.sqrt.ensures) ]
