-- `bdf::factor::matrix_rows`: the invariant and the measure of its loop.
use Rattle.std.specs.Prelude.{◌≡◌, ◌-◌, length}
use Rattle.loops.specs.laws.Turned.{Turned}
use Rattle.rules.specs.Factor.{matrix_row}
use Rattle.bdf.proofs.factor.matrix_rows.Given as goal

abbrev pub invariant-loop-r : goal.invariant-loop-r
invariant-loop-r l = (length l.ws ≡ length l.initial.ws) × Turned 0 l.n (matrix_row l.n l.c) l.initial.ws l.r l.ws

abbrev pub decreases-loop-r : goal.decreases-loop-r
decreases-loop-r l = l.n - l.r
