-- `opening::refused` meets its contract: a beginning of no components has ended, whatever else it is given. Assumes nothing.
use mathlib.Core.Path.{ap}
use Rattle.loops.specs.Choice.{when◌then◌else◌}
use Rattle.rules.specs.State.{After}
use Rattle.rules.specs.Begin.{begin_of}
use Rattle.listing.specs.Types.{Turn}
use Rattle.listing.proofs.opening.refused.Goals as goal

pub returns : goal.returns
unfolding begin_of when◌then◌else◌
returns c = rw (ap (λ (g : After Turn). g.is.run) c.begin-turn.ensures)
