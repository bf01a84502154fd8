-- `bdf::moves::load`: the invariant and the measure of its loop.
use Rattle.std.specs.Prelude.{◌≡◌, ◌-◌, length}
use Rattle.loops.specs.laws.Turned.{Turned}
use Rattle.rules.specs.Moves.{load_turn}
use Rattle.bdf.proofs.moves.load.Given as goal

abbrev pub invariant-loop-i : goal.invariant-loop-i
invariant-loop-i l = (length l.l ≡ length l.initial.l) × Turned 0 l.count (load_turn l.values l.from l.to) l.initial.l l.i l.l

abbrev pub decreases-loop-i : goal.decreases-loop-i
decreases-loop-i l = l.count - l.i
