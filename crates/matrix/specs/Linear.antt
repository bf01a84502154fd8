-- Solving A x = b with the factors and the pivots of `lu_decomp`, in the order of the Rust's `lin_solve` (matrix/linear.rs).
-- The Rust's own case n = 1 is its last line alone, since both loops are then empty; so is the definition's.
use Rattle.std.specs.Prelude.{Result, Ok, Err, List, Bool, true, ◌&&◌, ℕ, ◌+◌, ◌-◌, ◌<◌, length, get_or, set, ltb, eqb, Float}
use Rattle.std.specs.Float.Ieee
use Rattle.loops.specs.Choice.{when◌then◌else◌}
use Rattle.loops.specs.Loop.{loop}
use Rattle.loops.specs.Cell.{at, cell}
use Rattle.loops.specs.Refusal.{Outcome, gives, refuses}
use Rattle.loops.specs.Arithmetic.{◌⊕◌, ◌⊗◌, ◌⊘◌}
use Rattle.matrix.specs.declared.linear.SolveError.{SolveError}
use Rattle.matrix.specs.declared.linear.SolveError.TheVariants.{WrongSize, PivotOutside}
use Rattle.matrix.specs.Size.{sized_of}

-- what a call comes to: its answer, then what `b` holds after it
abbrev pub SolveOutcome : Type 0
SolveOutcome = Outcome Unit × List Float

-- what each answer says: done, or the number of the refusal
abbrev pub solution_of : Result (Unit {0}) SolveError → Outcome Unit
solution_of (Ok _) = gives tt
solution_of (Err WrongSize) = refuses 14
solution_of (Err PivotOutside) = refuses 16

-- ---- the pivots

-- the row that pivot k names
abbrev pub row : List ℕ → ℕ → ℕ
row ip k = get_or ip k 0

-- `inside` of the pivots before k, then whether pivot k names a row of n
unfoldable pub inside_turn : ℕ → List ℕ → ℕ → Bool → Bool
inside_turn n ip k inside = inside && ltb (row ip k) n

-- Whether the first n - 1 pivots all name a row. The last one is never read: LU does not write it.
unfoldable pub inside_of : ℕ → List ℕ → Bool
inside_of n ip = loop 0 (n - 1) (inside_turn n ip) true

-- the same as a statement, for those whose pivots passed the test
abbrev pub Inside : ℕ → List ℕ → Type 0
Inside n ip = (k : ℕ) → k < n - 1 → row ip k < n

-- ---- both phases

-- `b[i] += a[(i, k)] * t`, with t as it was before the rows were gone through
unfoldable pub added_turn : ℕ → List Float → ℕ → Float → ℕ → List Float → List Float
added_turn n a k t i b = set b i (at b i ⊕ cell n a i k ⊗ t)

-- ---- forward elimination

-- `b.swap(m, k)`
abbrev pub swapped : ℕ → ℕ → List Float → List Float
swapped m k b = set (set b m (at b k)) k (at b m)

-- `b[i] += a[(i, k)] * b[k]`
unfoldable pub lower_turn : ℕ → List Float → ℕ → ℕ → List Float → List Float
lower_turn n a k i b = set b i (at b i ⊕ cell n a i k ⊗ at b k)

-- the body of `for (k, &m) in ip`
unfoldable pub forward_turn : ℕ → List Float → List ℕ → ℕ → List Float → List Float
forward_turn n a ip k b = loop (k + 1) n (lower_turn n a k) (swapped (row ip k) k b)

-- ---- back substitution

-- `b[k] /= a[(k, k)]`
unfoldable pub divided_of : ℕ → List Float → ℕ → List Float → List Float
divided_of n a k b = set b k (at b k ⊘ cell n a k k)

-- `b[i] += a[(i, k)] * -b[k]`
unfoldable pub upper_turn : ℕ → List Float → ℕ → ℕ → List Float → List Float
upper_turn n a k i b = set b i (at b i ⊕ cell n a i k ⊗ Ieee.neg (at b k))

-- the body of `for kb in 1..n`, with k = n - kb
unfoldable pub back_turn : ℕ → List Float → ℕ → List Float → List Float
back_turn n a kb b = loop 0 (n - kb) (upper_turn n a (n - kb)) (divided_of n a (n - kb) b)

-- ---- the whole

-- both phases, and the division that is left for the first element
unfoldable pub solved_of : ℕ → List Float → List ℕ → List Float → List Float
solved_of n a ip b = divided_of n a 0 (loop 1 n (back_turn n a) (loop 0 (n - 1) (forward_turn n a ip) b))

-- `lin_solve(a, b, ip)`, with n the length of ip. Refuses 14 where n is 0 or too large, `a` is not n by n or b not n long;
-- then 16 where one of the first n - 1 pivots is n or more. Either leaves b as it was.
unfoldable pub lin_solve_of : List Float → List Float → List ℕ → SolveOutcome
lin_solve_of a b ip =
    let n = length ip in
    when sized_of n (length a) && eqb (length b) n then (when inside_of n ip then (gives tt, solved_of n a ip b) else (refuses 16, b)) else (refuses 14, b)
