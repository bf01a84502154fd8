-- One call of the renderer: what is said, the place moved on, and the slice with the samples.
use Rattle.std.specs.Prelude.{Bool, true, ◌&&◌, not, List, ℕ, ◌+◌, ◌-◌, ◌*◌, ◌/◌, ◌^◌, min, ltb, eqb, Float, length, Result, Ok, Err}
use Rattle.std.specs.Float.Ieee
use Rattle.loops.specs.Choice.{when◌then◌else◌}
use Rattle.loops.specs.Loop.{loop}
use Rattle.loops.specs.Part.{over}
use Rattle.loops.specs.Refusal.{Outcome, gives, refuses}
use Rattle.loops.specs.Arithmetic.{+0}
use Rattle.matrix.specs.Size.{max_n}
use Rattle.interpolation.specs.Interpolate.{values_at}
use Rattle.render.specs.declared.grid.Grid.{Grid}
use Rattle.render.specs.declared.grid.Grid.TheVariants.{Fresh, Open, Closed}
use Rattle.render.specs.declared.grid.Notice.{Notice}
use Rattle.render.specs.declared.grid.Sampled.{Sampled}
use Rattle.render.specs.declared.grid.RenderError.{RenderError}
use Rattle.render.specs.declared.grid.RenderError.TheVariants.{TooMany, WrongLength, OutOfTurn, OutOfRange}
use Rattle.render.specs.Times.{time_of, past, within, first_from, counted}

-- ---- the place

-- before the first notice
abbrev pub fresh_grid : Grid
fresh_grid = Fresh (record { start = +0; new = +0; h = +0 }) 0

-- behind the notice t, with k the next to write: some k of t is due while that one does not lie past its new x
abbrev pub placed_at : Notice → ℕ → Grid
placed_at t k = when past t.new k then Closed t k else Open t k

-- ---- the refusals

-- 18, after a first call: an unfinished notice is repeated, its two x and h; with none unfinished, the notice starts where the last
-- ended
abbrev pub follows : Grid → Notice → Bool
follows (Fresh last next) t = true
follows (Open last next) t = Ieee.eq t.start last.start && Ieee.eq t.new last.new && Ieee.eq t.h last.h
follows (Closed last next) t = Ieee.eq t.start last.new

-- 19: h is above 0, and both x lie within -80,000 to 80,000
abbrev pub proper : Notice → Bool
proper t = Ieee.lt +0 t.h && within t.start && within t.new

-- ---- the samples

-- the first k that a call may write: on a first call the least whose time is not below x0
abbrev pub due_from : Grid → Notice → ℕ
due_from (Fresh last next) t = first_from t.start
due_from (Open last next) t = next
due_from (Closed last next) t = next

-- how many samples of n numbers have room; without components a sample has no numbers, and there is room for every k
abbrev pub room_for : ℕ → ℕ → ℕ
room_for n len = when eqb n 0 then 2 ^ 32 else len / n

-- how many are written: those at or below the new x, as many as have room
abbrev pub count_of : Grid → Notice → ℕ → ℕ → ℕ
count_of g t n len = counted t.new (room_for n len) (due_from g t)

-- c samples of n components from k on, one after another, each the interpolation at its time
unfoldable pub rows : Notice → ℕ → List Float → ℕ → ℕ → List Float → List Float
rows t n cont k c out = loop 0 c (λ i out. over (i * n) n (λ yi. values_at (time_of (k + i)) yi cont t.start t.h) out) out

-- ---- the whole

-- the numbers of the refusals
abbrev pub number_of : RenderError → ℕ
number_of TooMany = 1
number_of WrongLength = 13
number_of OutOfTurn = 18
number_of OutOfRange = 19

-- what is said: how many samples were written, from which k on, and whether the notice is done; or the number of a refusal
abbrev pub said_of : Result Sampled RenderError → Outcome Sampled
said_of (Ok s) = gives s
said_of (Err e) = refuses (number_of e)

-- what is said, the place, and the slice afterwards
pub data Renders : Type 0 where
  renders : Outcome Sampled → Grid → List Float → Renders

unfoldable pub written : Grid → Notice → ℕ → List Float → List Float → Renders
unfolding rows
written g t n cont out =
    let k = due_from g t in
    let c = count_of g t n (length out) in
    renders (gives (record { from = k; count = c; done = past t.new (k + c) })) (placed_at t (k + c)) (rows t n cont k c out)

unfoldable pub sampled : Grid → Notice → ℕ → List Float → List Float → Renders
sampled g t n cont out =
    when ltb max_n n then renders (refuses 1) g out else
    when not (eqb (length cont) (7 * n)) then renders (refuses 13) g out else
    when not (follows g t) then renders (refuses 18) g out else
    when not (proper t) then renders (refuses 19) g out else
    written g t n cont out

-- how many lie from k on before the k `end`, `room` at most
unfoldable pub due : ℕ → ℕ → ℕ → ℕ
due end room k = min room (end - k)
