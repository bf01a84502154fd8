-- `rescale::change_d`: the test of its definition, then its callees one after the other. Assumes nothing.
use native.Mathlib.Nat.{min-eq_left}
use Rattle.loops.specs.Choice.{when◌then◌else◌}
use Rattle.rules.specs.Rescale.{change_d, rescaled}
use Rattle.bdf.proofs.rescale.change_d.Goals as goal

pub returns-then-factor : goal.returns-then-factor
unfolding change_d when◌then◌else◌
returns-then-factor c = rw c.if-factor.true

pub returns : goal.returns
unfolding change_d rescaled when◌then◌else◌
returns c =
    rw (c.if-factor.false, min-eq_left c.requires.1, c.load.ensures, c.new_rows-scratch.ensures, c.ru_by_order-ru.ensures)
