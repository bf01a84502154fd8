-- `judge::sum_up`: one row a turn, from row order down. Assumes nothing.
use mathlib.Core.Path.{refl}
use native.Mathlib.Omega.{arith}
use Rattle.loops.specs.laws.Turned.{turn_none, turn_more, turn_all}
use Rattle.rules.specs.Judge.{summed_turn, summed}
use Rattle.bdf.proofs.judge.sum_up.Goals as goal

pub loop-j-init : goal.loop-j-init
loop-j-init c = (refl, turn_none (omega arith))

pub loop-j-preserved : goal.loop-j-preserved
unfolding summed_turn
loop-j-preserved c = (omega arith, turn_more c.loop-j.invariant.1 (omega arith) c.add_next.ensures)

pub returns : goal.returns
unfolding summed
returns c = turn_all c.loop-j.invariant.1 (omega arith)
