-- `judge::newest`: the two newest differences of one component a turn. Assumes nothing.
use mathlib.Core.Path.{refl}
use native.Mathlib.Omega.{arith}
use Rattle.loops.specs.laws.Turned.{turn_none, turn_more, turn_all}
use Rattle.rules.specs.Judge.{newest_turn, newest}
use Rattle.bdf.proofs.judge.newest.Goals as goal

pub loop-i-init : goal.loop-i-init
loop-i-init c = (refl, turn_none (omega arith))

pub loop-i-preserved : goal.loop-i-preserved
unfolding newest_turn
loop-i-preserved c = (omega arith, turn_more c.loop-i.invariant.1 (omega arith) (rw (c.get-y.ensures, c.put.ensures, c.get.ensures, c.get-in-loop-i.ensures) at c.put-in-loop-i.ensures))

pub returns : goal.returns
unfolding newest
returns c = turn_all c.loop-i.invariant.1 c.loop-i-test.false
