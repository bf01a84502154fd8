-- `starting::first_guess`: the bound of its definition, both ways. Assumes nothing.
use Rattle.loops.specs.Choice.{when◌then◌else◌}
use Rattle.rules.specs.Starting.{first_guess}
use Rattle.bdf.proofs.starting.first_guess.Goals as goal
use Rattle.bdf.proofs.starting.first_guess.Goals.{then-h-most, else-h-most}

pub returns : goal.returns
unfolding first_guess when◌then◌else◌
returns c =
    rw (c.abs.ensures, c.signum.ensures, ← c.abs-most.ensures, ← c.raw_guess-h.ensures)
    (elim c.if-h-most.branch [ then-h-most w ↦ rw (w.c-is, w.if-h-most.true) | else-h-most w ↦ rw (w.c-is, w.if-h-most.false) ])
