-- `order::choose`: its callees one after the other. Assumes nothing.
use native.Mathlib.Nat.{add-zero}
use Rattle.rules.specs.Order.{choice_of}
use Rattle.bdf.proofs.order.choose.Goals as goal

pub returns : goal.returns
unfolding choice_of
returns c = rw (add-zero, c.step_factor.ensures, c.new_order.ensures, c.best.ensures, c.factor-c.ensures, c.factor-b.ensures, c.factor-a.ensures)
