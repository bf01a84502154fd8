-- `bdf::rescale::add_scaled`: the invariant and the measure of its loop.
use Rattle.std.specs.Prelude.{◌≡◌, ◌-◌, length}
use Rattle.loops.specs.laws.Turned.{Turned}
use Rattle.rules.specs.Rescale.{scaled_turn}
use Rattle.bdf.proofs.rescale.add_scaled.Given as goal

abbrev pub invariant-loop-j : goal.invariant-loop-j
invariant-loop-j l = (length l.to ≡ length l.initial.to) × Turned 0 l.count (scaled_turn l.wide l.coeff l.source l.k l.i) l.initial.to l.j l.to

abbrev pub decreases-loop-j : goal.decreases-loop-j
decreases-loop-j l = l.count - l.j
