-- `bdf::rescale::product_row`: the invariant and the measure of its loop.
use Rattle.std.specs.Prelude.{◌≡◌, ◌-◌, length}
use Rattle.loops.specs.laws.Turned.{Turned}
use Rattle.rules.specs.Rescale.{product_turn}
use Rattle.bdf.proofs.rescale.product_row.Given as goal

abbrev pub invariant-loop-k : goal.invariant-loop-k
invariant-loop-k l = (length l.res ≡ length l.initial.res) × Turned 0 l.size (product_turn l.a l.b l.size l.i) l.initial.res l.k l.res

abbrev pub decreases-loop-k : goal.decreases-loop-k
decreases-loop-k l = l.size - l.k
