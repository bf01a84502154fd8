-- `going_on::go_within`: the needed places are lent, and what lies beyond them stays. Assumes nothing.
use Rattle.rules.proofs.laws.NeededLaws.{beyond_kept}
use Rattle.rules.specs.GoOn.{go_within}
use Rattle.bdf.proofs.going_on.go_within.Goals as goal

pub returns : goal.returns
unfolding go_within
returns c =
    rw (← c.row-need.ensures) (beyond_kept _ c.run.ensures)
