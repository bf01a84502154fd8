-- The contracts of `lu_decomp` and `lin_solve` leave no choice: two outcomes that meet one of them, from the same matrix, right
-- side and pivots, are the same answer and the same numbers left in every lent slice.
use Rattle.std.specs.Prelude.{◌≡◌, refl, Result, Ok, Err, List, ℕ, eqb, Float}
use Rattle.std.proofs.Common.{sym, ap, ◌∙◌}
use Rattle.loops.specs.Choice.{when◌then◌else◌}
use Rattle.loops.specs.Refusal.{Outcome, gives, refuses}
use Rattle.matrix.specs.declared.lu.LuError.{LuError}
use Rattle.matrix.specs.declared.lu.LuError.TheVariants.{WrongSize, Singular}
use Rattle.matrix.specs.declared.linear.SolveError.{SolveError}
use Rattle.matrix.specs.declared.linear.SolveError.TheVariants.{WrongSize as SolveWrongSize, PivotOutside}
use Rattle.matrix.specs.Lu.{LuOutcome, factoring_of, lu_decomp_of}
use Rattle.matrix.specs.Linear.{SolveOutcome, solution_of, lin_solve_of}

-- ---- what an answer says tells the answer

-- the answer that an outcome tells, read back
abbrev Factored : Type 0
Factored = Result (Unit {0}) LuError

unfoldable factoring_told : Outcome Unit → Factored
factoring_told (gives _) = Ok tt
factoring_told (refuses k) = Err (when eqb k 14 then WrongSize else Singular)

factoring_read : (r : Factored) → factoring_told (factoring_of r) ≡ r
unfolding factoring_told when◌then◌else◌
factoring_read (Ok tt) = refl
factoring_read (Err WrongSize) = refl
factoring_read (Err Singular) = refl

abbrev Solved : Type 0
Solved = Result (Unit {0}) SolveError

unfoldable solution_told : Outcome Unit → Solved
solution_told (gives _) = Ok tt
solution_told (refuses k) = Err (when eqb k 14 then SolveWrongSize else PivotOutside)

solution_read : (r : Solved) → solution_told (solution_of r) ≡ r
unfolding solution_told when◌then◌else◌
solution_read (Ok tt) = refl
solution_read (Err SolveWrongSize) = refl
solution_read (Err PivotOutside) = refl

factoring_told_lem : (r s : Factored) → factoring_of r ≡ factoring_of s → r ≡ s
factoring_told_lem r s e = sym (factoring_read r) ∙ ap factoring_told e ∙ factoring_read s

solution_told_lem : (r s : Solved) → solution_of r ≡ solution_of s → r ≡ s
solution_told_lem r s e = sym (solution_read r) ∙ ap solution_told e ∙ solution_read s

-- ---- lu_decomp

-- the contract: answer r, with a and ip as the matrix and the pivots after the call
abbrev pub MeetsLu : List Float → List ℕ → Result (Unit {0}) LuError → List Float → List ℕ → Type 0
MeetsLu a₀ ip₀ r a ip = (factoring_of r, a, ip) ≡ lu_decomp_of a₀ ip₀

pub lu_decomp_unique :
    (a₀ : List Float) (ip₀ : List ℕ) {r s : Result (Unit {0}) LuError} {a b : List Float} {ip jp : List ℕ} →
    MeetsLu a₀ ip₀ r a ip → MeetsLu a₀ ip₀ s b jp → (r ≡ s) × (a ≡ b) × (ip ≡ jp)
lu_decomp_unique a₀ ip₀ {r} {s} m o =
    let same = m ∙ sym o in
    (factoring_told_lem r s (ap (λ (x : LuOutcome). x.0) same), ap (λ (x : LuOutcome). x.1) same, ap (λ (x : LuOutcome). x.2) same)

-- ---- lin_solve

-- the contract: answer r, with b as the right side after the call
abbrev pub MeetsSolve : List Float → List Float → List ℕ → Result (Unit {0}) SolveError → List Float → Type 0
MeetsSolve a b₀ ip r b = (solution_of r, b) ≡ lin_solve_of a b₀ ip

pub lin_solve_unique :
    (a b₀ : List Float) (ip : List ℕ) {r s : Result (Unit {0}) SolveError} {b c : List Float} →
    MeetsSolve a b₀ ip r b → MeetsSolve a b₀ ip s c → (r ≡ s) × (b ≡ c)
lin_solve_unique a b₀ ip {r} {s} m o =
    let same = m ∙ sym o in
    (solution_told_lem r s (ap (λ (x : SolveOutcome). x.0) same), ap (λ (x : SolveOutcome). x.1) same)
