-- `places::set_row`: one component a turn, and what the call answers is what g says of it. Assumes nothing.
use Rattle.std.proofs.Common.{refl, ap, ◌∙◌, arith}
use Rattle.loops.specs.laws.Turned.{turn_none, turn_more, turn_all}
use Rattle.rules.specs.Places.{put}
use Rattle.bdf.proofs.places.set_row.Goals as goal

pub loop-i-init : goal.loop-i-init
loop-i-init g c = (refl, λ h says. turn_none (omega arith))

pub loop-i-preserved : goal.loop-i-preserved
loop-i-preserved g c =
    (omega arith, λ h says. turn_more (c.loop-i.invariant.1 h says) (omega arith) (c.put.ensures ∙ ap (put c.args.n c.loop-i.ws c.args.v c.loop-i.i) (says _ _ _ c.f-x.ensures)))

pub returns : goal.returns
returns g c = λ h says. turn_all (c.loop-i.invariant.1 h says) c.loop-i-test.false
