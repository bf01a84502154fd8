-- LU decomposition with partial pivoting, P A = L U, in the order of the Rust's `lu_decomp` (matrix/lu.rs, the real half).
-- a is the matrix, stored by rows, and n its size. U replaces it from the diagonal on; below the diagonal stand the multipliers of L
-- with their sign turned, each where it was made: a later exchange does not move it. ip[k] is the row exchanged with row k.
use Rattle.std.specs.Prelude.{Result, Ok, Err, List, ℕ, zero, suc, ◌+◌, ◌-◌, length, set, eqb, Float}
use Rattle.std.specs.Float.Ieee
use Rattle.loops.specs.Choice.{when◌then◌else◌}
use Rattle.loops.specs.Loop.{loop}
use Rattle.loops.specs.Cell.{cell, stored}
use Rattle.loops.specs.Refusal.{Outcome, gives, refuses}
use Rattle.loops.specs.Arithmetic.{◌⊕◌, ◌⊗◌, ◌⊘◌, +0, one}
use Rattle.number.specs.Helpers.{abs_of}
use Rattle.matrix.specs.declared.lu.LuError.{LuError}
use Rattle.matrix.specs.declared.lu.LuError.TheVariants.{WrongSize, Singular}
use Rattle.matrix.specs.Size.{sized_of}

-- what a call comes to: its answer, then what `a` and `ip` hold after it
abbrev pub LuOutcome : Type 0
LuOutcome = Outcome Unit × List Float × List ℕ

-- what each answer says: done, or the number of the refusal
abbrev pub factoring_of : Result (Unit {0}) LuError → Outcome Unit
factoring_of (Ok _) = gives tt
factoring_of (Err WrongSize) = refuses 14
factoring_of (Err Singular) = refuses 15

-- ---- the pivot: of column k from the diagonal down, the row with the largest magnitude, and of equal ones the first

-- `if val > max_val { max_val = val; m = i; }`, the state being m and max_val. No comparison with a NaN is true:
-- a NaN is never taken, and one that stands on the diagonal is never beaten.
unfoldable pub pivot_turn : ℕ → List Float → ℕ → ℕ → ℕ × Float → ℕ × Float
pivot_turn n a k i best = when Ieee.lt best.1 (abs_of (cell n a i k)) then (i, abs_of (cell n a i k)) else best

unfoldable pub pivot_of : ℕ → List Float → ℕ → ℕ
pivot_of n a k = (loop (k + 1) n (pivot_turn n a k) (k, abs_of (cell n a k k))).0

-- ---- a stage

-- `if m != k { let tmp = a[(m, j)]; a[(m, j)] = a[(k, j)]; a[(k, j)] = tmp; }`
unfoldable pub exchanged_of : ℕ → ℕ → ℕ → ℕ → List Float → List Float
exchanged_of n m k j a = when eqb m k then a else stored n (stored n a m j (cell n a k j)) k j (cell n a m j)

-- `a[(i, k)] = -a[(i, k)] * t`
unfoldable pub scale_turn : ℕ → ℕ → Float → ℕ → List Float → List Float
scale_turn n k t i a = stored n a i k (Ieee.neg (cell n a i k) ⊗ t)

-- `a[(i, j)] += a[(i, k)] * tj`
unfoldable pub eliminate_turn : ℕ → ℕ → ℕ → Float → ℕ → List Float → List Float
eliminate_turn n k j tj i a = stored n a i j (cell n a i j ⊕ cell n a i k ⊗ tj)

-- Column j: its multiplier tj is read before the exchange, which is done whether or not tj is zero.
unfoldable pub column_turn : ℕ → ℕ → ℕ → ℕ → List Float → List Float
column_turn n m k j a =
    let tj = cell n a m j in
    let b = exchanged_of n m k j a in
    when Ieee.ne tj +0 then loop (k + 1) n (eliminate_turn n k j tj) b else b

-- Stage k with the pivot in row m: exchange in column k, scale that column, then the columns to its right.
unfoldable pub stage_of : ℕ → ℕ → ℕ → List Float → List Float
stage_of n m k a =
    let t = one ⊘ cell n a m k in
    loop (k + 1) n (column_turn n m k) (loop (k + 1) n (scale_turn n k t) (exchanged_of n m k k a))

-- ---- the whole

-- what the last test, of the last diagonal element, says
unfoldable pub last_of : ℕ → List Float → List ℕ → LuOutcome
last_of n a ip = when Ieee.eq (cell n a (n - 1) (n - 1)) +0 then (refuses 15, a, ip) else (gives tt, a, ip)

-- `for k in .. n - 1`, from k on, with `left` stages to go: ip[k] is written before the pivot is tested
unfoldable pub stages_of : ℕ → ℕ → ℕ → List Float → List ℕ → LuOutcome
unfolding last_of
stages_of n zero k a ip = last_of n a ip
stages_of n (suc left) k a ip =
    let m = pivot_of n a k in
    when Ieee.eq (cell n a m k) +0 then (refuses 15, a, set ip k m) else stages_of n left (k + 1) (stage_of n m k a) (set ip k m)

-- n = 1: the one number is its own factor
unfoldable pub single_of : List Float → List ℕ → LuOutcome
single_of a ip = when Ieee.eq (cell 1 a 0 0) +0 then (refuses 15, a, ip) else (gives tt, a, set ip 0 0)

-- `lu_decomp(a, ip)`, with n the length of ip. Refuses 14 where n is 0 or too large or `a` is not n by n, and 15 where a
-- pivot is zero; the stages done before stay, and so does the failing stage's ip[k].
unfoldable pub lu_decomp_of : List Float → List ℕ → LuOutcome
lu_decomp_of a ip =
    let n = length ip in
    when sized_of n (length a) then (when eqb n 1 then single_of a ip else stages_of n (n - 1) 0 a ip) else (refuses 14, a, ip)
