-- `bdf::rescale::new_rows`: the invariant and the measure of its loop.
use Rattle.std.specs.Prelude.{◌≡◌, ◌-◌, ◌*◌, length}
use Rattle.loops.specs.laws.Turned.{Turned}
use Rattle.matrix.specs.Size.{max_n}
use Rattle.rules.specs.Rescale.{new_row}
use Rattle.bdf.proofs.rescale.new_rows.Given as goal

abbrev pub invariant-loop-i : goal.invariant-loop-i
invariant-loop-i l = (length l.scratch ≡ 6 * max_n) × Turned 0 l.size (new_row l.n l.ru l.d l.size) l.initial.scratch l.i l.scratch

abbrev pub decreases-loop-i : goal.decreases-loop-i
decreases-loop-i l = l.size - l.i
