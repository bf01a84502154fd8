-- `bdf::rescale::first_row`: the invariant and the measure of its loop.
use Rattle.std.specs.Prelude.{◌≡◌, ◌-◌, List, length, set}
use lib.Ieee.{Float}
use Rattle.loops.specs.laws.Turned.{Turned}
use Rattle.loops.specs.Arithmetic.{one}
use Rattle.bdf.proofs.rescale.first_row.Given as goal

abbrev pub invariant-loop-j : goal.invariant-loop-j
invariant-loop-j l = (length l.m ≡ 36) × Turned 0 l.size (λ j (t : List Float). set t j one) l.initial.m l.j l.m

abbrev pub decreases-loop-j : goal.decreases-loop-j
decreases-loop-j l = l.size - l.j
