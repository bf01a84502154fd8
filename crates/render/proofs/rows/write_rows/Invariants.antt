-- `render::rows::write_rows`: the invariant and the measure of its loop.
use mathlib.Core.Path.{◌≡◌}
use mathlib.Core.List.{List}
use Prim.Native.Nat.{ℕ, ◌+◌, ◌-◌, ◌*◌}
use lib.Ieee.{Float}
use lib.ListN.{length}
use Rattle.loops.specs.laws.Turned.{Turned}
use Rattle.loops.specs.Part.{over}
use Rattle.interpolation.specs.Interpolate.{values_at}
use Rattle.render.specs.declared.grid.Notice.{Notice}
use Rattle.render.specs.Times.{time_of}
use Rattle.render.proofs.rows.write_rows.Given as goal

abbrev pub row_turn : Notice → ℕ → List Float → ℕ → ℕ → List Float → List Float
row_turn t n cont k i out = over (i * n) n (λ yi. values_at (time_of (k + i)) yi cont t.start t.h) out

abbrev pub invariant-loop-i : goal.invariant-loop-i
invariant-loop-i l = (length l.out ≡ length l.initial.out) × Turned 0 l.count (row_turn l.notice l.n l.cont l.k) l.initial.out l.i l.out

abbrev pub decreases-loop-i : goal.decreases-loop-i
decreases-loop-i l = l.count - l.i
