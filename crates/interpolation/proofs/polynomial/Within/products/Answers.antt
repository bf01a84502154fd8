-- `polynomial::Within::products`: one product a turn. Assumes nothing.
use native.Mathlib.Omega.{arith}
use Rattle.loops.specs.laws.Turned.{turn_none, turn_more, turn_all}
use Rattle.interpolation.specs.Interpolate.{products, products_turn}
use Rattle.interpolation.proofs.polynomial.Within.products.Goals as goal

pub loop-k-init : goal.loop-k-init
loop-k-init g c = turn_none (omega arith)

pub loop-k-preserved : goal.loop-k-preserved
unfolding products_turn
loop-k-preserved g c = let loop = c.loop-k in
    let x-factor = c.factor-factor in
    turn_more loop.invariant (omega arith) (rw (c.product_at-product.ensures, x-factor.ensures))

pub returns : goal.returns
unfolding products
returns g c = turn_all c.loop-k.invariant c.loop-k-test.false
