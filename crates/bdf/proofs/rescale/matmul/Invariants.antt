-- `bdf::rescale::matmul`: the invariant and the measure of its loop.
use Rattle.std.specs.Prelude.{◌≡◌, ◌-◌, length}
use Rattle.loops.specs.laws.Turned.{Turned}
use Rattle.rules.specs.Rescale.{product_row}
use Rattle.bdf.proofs.rescale.matmul.Given as goal

abbrev pub invariant-loop-i : goal.invariant-loop-i
invariant-loop-i l = (length l.res ≡ 36) × Turned 0 l.size (product_row l.a l.b l.size) l.initial.res l.i l.res

abbrev pub decreases-loop-i : goal.decreases-loop-i
decreases-loop-i l = l.size - l.i
