-- `matrix::linear::add_column`: the invariant and the measure of its loop.
use Rattle.std.proofs.Common.{◌≡◌, ◌-◌, length}
use Rattle.loops.specs.laws.Turned.{Turned}
use Rattle.matrix.specs.Linear.{added_turn}
use Rattle.matrix.proofs.linear.add_column.Given as goal

abbrev pub invariant-loop-i : goal.invariant-loop-i
invariant-loop-i l = (length l.b ≡ l.a.n) × Turned l.fn.rows.start l.fn.rows.end (added_turn l.a.n l.a.cells.now l.k l.t) l.initial.b l.i l.b

abbrev pub decreases-loop-i : goal.decreases-loop-i
decreases-loop-i l = l.fn.rows.end - l.i
