-- `bdf::judge::sum_up`: the invariant and the measure of its loop.
use Rattle.std.specs.Prelude.{◌≡◌, ◌+◌, ◌-◌, length}
use Rattle.loops.specs.laws.Turned.{Turned}
use Rattle.rules.specs.Judge.{summed_turn}
use Rattle.bdf.proofs.judge.sum_up.Given as goal

abbrev pub invariant-loop-j : goal.invariant-loop-j
invariant-loop-j l = (length l.ws ≡ length l.initial.ws) × Turned 0 (l.order + 1) (summed_turn l.n l.order) l.initial.ws l.j l.ws

abbrev pub decreases-loop-j : goal.decreases-loop-j
decreases-loop-j l = l.order + 1 - l.j
