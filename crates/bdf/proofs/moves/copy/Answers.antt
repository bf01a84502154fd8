-- `moves::copy`: one place a turn, from the same list. Assumes nothing.
use mathlib.Core.Path.{refl}
use native.Mathlib.Omega.{arith}
use lib.ListN.{length-set}
use Rattle.loops.specs.laws.Turned.{turn_none, turn_more, turn_all}
use Rattle.rules.specs.Moves.{copy_turn, copied}
use Rattle.bdf.proofs.moves.copy.Goals as goal

pub loop-i-init : goal.loop-i-init
loop-i-init c = (refl, turn_none (omega arith))

pub loop-i-preserved : goal.loop-i-preserved
unfolding copy_turn
loop-i-preserved c = (simp length-set c.loop-i.invariant.0, turn_more c.loop-i.invariant.1 (omega arith) refl)

pub returns : goal.returns
unfolding copied
returns c = turn_all c.loop-i.invariant.1 c.loop-i-test.false
