-- `job::right::rows`: the invariant of its loop.
use Rattle.std.specs.Prelude.{◌≡◌, length}
use Rattle.loops.specs.laws.Turned.{Turned}
use Rattle.job.specs.Right.{right_turn}
use Rattle.job.proofs.right.rows.Given as goal

abbrev pub invariant-loop-i : goal.invariant-loop-i
invariant-loop-i l = Turned 0 (length l.y) (right_turn l.a l.y) l.initial.dy l.i l.dy
