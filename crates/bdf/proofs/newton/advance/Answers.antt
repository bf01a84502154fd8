-- `newton::advance`: one component of y_new and of delta a turn. Assumes nothing.
use mathlib.Core.Path.{refl}
use native.Mathlib.Omega.{arith}
use Rattle.loops.specs.laws.Turned.{turn_none, turn_more, turn_all}
use Rattle.rules.specs.Newton.{advance_turn, advanced}
use Rattle.bdf.proofs.newton.advance.Goals as goal

pub loop-i-init : goal.loop-i-init
loop-i-init c = (refl, turn_none (omega arith))

pub loop-i-preserved : goal.loop-i-preserved
unfolding advance_turn
loop-i-preserved c =
    (omega arith, turn_more c.loop-i.invariant.1 (omega arith) (rw c.advance_at.ensures at c.advance_at-in-loop-i.ensures))

pub returns : goal.returns
unfolding advanced
returns c = turn_all c.loop-i.invariant.1 c.loop-i-test.false
