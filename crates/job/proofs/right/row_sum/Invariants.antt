-- `job::right::row_sum`: the invariant of its loop.
use Rattle.std.specs.Prelude.{◌≡◌, length}
use Rattle.loops.specs.Arithmetic.{+0}
use Rattle.loops.specs.laws.Turned.{Turned}
use Rattle.job.specs.Right.{sum_turn}
use Rattle.job.proofs.right.row_sum.Given as goal

abbrev pub invariant-loop-c : goal.invariant-loop-c
invariant-loop-c l = Turned 0 (length l.y) (sum_turn l.a l.y l.i) +0 l.c l.sum
