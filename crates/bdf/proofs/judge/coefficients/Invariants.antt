-- `bdf::judge::coefficients`: the invariant and the measure of its loop.
use Rattle.std.specs.Prelude.{◌≡◌, ◌-◌, length}
use Rattle.loops.specs.laws.Turned.{Turned}
use Rattle.rules.specs.Judge.{coeff_turn}
use Rattle.bdf.proofs.judge.coefficients.Given as goal

abbrev pub invariant-loop-k : goal.invariant-loop-k
invariant-loop-k l = (length l.ws ≡ length l.initial.ws) × Turned 0 5 (coeff_turn l.n l.order l.i) l.initial.ws l.k l.ws

abbrev pub decreases-loop-k : goal.decreases-loop-k
decreases-loop-k l = 5 - l.k
