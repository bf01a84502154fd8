-- `aim::rescale_d`: rows 0 to 7 are lent and come back as `change_d` makes them. Assumes nothing.
use Rattle.std.specs.Prelude.{◌≡◌, ◌-◌, ◌*◌}
use native.Mathlib.Omega.{arith}
use Rattle.rules.proofs.laws.LentLaws.{came_back}
use Rattle.rules.specs.Rescale.{change_d}
use Rattle.rules.specs.Attempt.{rescaled_d}
use Rattle.bdf.proofs.aim.rescale_d.Goals as goal

pub returns : goal.returns
unfolding rescaled_d
returns c =
    let p = c.args in
    let rows : c.row-to.result - c.row-from.result ≡ 8 * p.n = omega (arith, c.row-from.ensures, c.row-to.ensures) in
    came_back (change_d p.n p.order p.factor) _ c.row-from.ensures rows c.change_d.ensures
