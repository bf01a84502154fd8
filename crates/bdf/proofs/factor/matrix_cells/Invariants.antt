-- `bdf::factor::matrix_cells`: the invariant and the measure of its loop.
use Rattle.std.specs.Prelude.{◌≡◌, ◌-◌, length}
use Rattle.loops.specs.laws.Turned.{Turned}
use Rattle.rules.specs.Factor.{matrix_turn}
use Rattle.bdf.proofs.factor.matrix_cells.Given as goal

abbrev pub invariant-loop-j : goal.invariant-loop-j
invariant-loop-j l = (length l.ws ≡ length l.initial.ws) × Turned 0 l.n (matrix_turn l.n l.c l.r) l.initial.ws l.j l.ws

abbrev pub decreases-loop-j : goal.decreases-loop-j
decreases-loop-j l = l.n - l.j
