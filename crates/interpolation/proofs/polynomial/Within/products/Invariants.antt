-- `interpolation::polynomial::Within::products`: the invariant and the measure of its loop.
use Prim.Native.Nat.{◌-◌}
use Rattle.loops.specs.laws.Turned.{Turned}
use Rattle.interpolation.specs.Interpolate.{products_turn}
use Rattle.interpolation.proofs.polynomial.Within.products.Given as goal

abbrev pub invariant-loop-k : goal.invariant-loop-k
invariant-loop-k g l = Turned 0 g.row.ORDER (products_turn l.self.xi l.self.x_new l.self.h) l.initial.p l.k l.p

abbrev pub decreases-loop-k : goal.decreases-loop-k
decreases-loop-k g l = g.row.ORDER - l.k
