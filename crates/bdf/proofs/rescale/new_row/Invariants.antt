-- `bdf::rescale::new_row`: the invariant and the measure of its loop.
use Rattle.std.specs.Prelude.{◌≡◌, ◌-◌, length}
use Rattle.loops.specs.laws.Turned.{Turned}
use Rattle.rules.specs.Rescale.{new_row_turn}
use Rattle.bdf.proofs.rescale.new_row.Given as goal

abbrev pub invariant-loop-k : goal.invariant-loop-k
invariant-loop-k l = (length l.scratch ≡ length l.initial.scratch) × Turned 0 l.size (new_row_turn l.n l.ru l.d l.i) l.initial.scratch l.k l.scratch

abbrev pub decreases-loop-k : goal.decreases-loop-k
decreases-loop-k l = l.size - l.k
