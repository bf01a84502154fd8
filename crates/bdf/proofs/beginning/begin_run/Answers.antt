-- `beginning::begin_run`: the needed places are lent, and what lies beyond them stays. Assumes nothing.
use mathlib.Core.Path.{ap}
use Rattle.rules.specs.declared.types.Progress.{Progress}
use Rattle.rules.proofs.laws.NeededLaws.{room_needed, beyond_kept}
use Rattle.rules.specs.Begin.{kept, begin_run}
use Rattle.bdf.proofs.beginning.begin_run.Goals as goal

pub ask_first-requires : goal.ask_first-requires
unfolding kept
ask_first-requires c =
    (ap (λ (p : Progress). p.n) c.kept-p.ensures, rw c.row-need.ensures (room_needed _ c.requires.0 c.requires.1 c.requires.2), c.requires.3, c.requires.4, c.requires.5)

pub returns : goal.returns
unfolding begin_run
returns c = rw (← c.kept-p.ensures, ← c.row-need.ensures) (beyond_kept _ c.ask_first.ensures)
