-- `rescale::add_scaled`: one place of the row a turn. Assumes nothing.
use mathlib.Core.Path.{refl, sym, ◌∙◌}
use native.Mathlib.Omega.{arith}
use lib.ListN.{length-set}
use Rattle.loops.specs.laws.Turned.{turn_none, turn_more, turn_all}
use Rattle.loops.specs.laws.ChoiceLaws.{when_true, when_false}
use Rattle.rules.specs.Rescale.{add_scaled, scaled_turn}
use Rattle.bdf.proofs.rescale.add_scaled.Goals as goal

pub returns-then-coeff : goal.returns-then-coeff
unfolding add_scaled
returns-then-coeff c = sym (when_true _ _ c.if-coeff.true)

pub loop-j-init : goal.loop-j-init
loop-j-init c = (refl, turn_none (omega arith))

pub loop-j-preserved : goal.loop-j-preserved
unfolding scaled_turn
loop-j-preserved c = (simp length-set c.loop-j.invariant.0, turn_more c.loop-j.invariant.1 (omega arith) refl)

pub returns : goal.returns
unfolding add_scaled
returns c = turn_all c.loop-j.invariant.1 c.loop-j-test.false ∙ sym (when_false _ _ c.if-coeff.false)
