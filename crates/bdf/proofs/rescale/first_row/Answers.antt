-- `rescale::first_row`: row 0 is ones, one place a turn. Assumes nothing.
use mathlib.Core.Path.{refl}
use native.Mathlib.Omega.{arith}
use lib.ListN.{length-set}
use Rattle.loops.specs.laws.Turned.{turn_none, turn_more, turn_all}
use Rattle.rules.specs.Rescale.{first_row}
use Rattle.bdf.proofs.rescale.first_row.Goals as goal

pub loop-j-init : goal.loop-j-init
loop-j-init c = (refl, turn_none (omega arith))

pub loop-j-preserved : goal.loop-j-preserved
loop-j-preserved c = (simp length-set c.loop-j.invariant.0, turn_more c.loop-j.invariant.1 (omega arith) refl)

pub returns : goal.returns
unfolding first_row
returns c = turn_all c.loop-j.invariant.1 c.loop-j-test.false
