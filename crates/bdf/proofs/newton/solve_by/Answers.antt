-- `newton::solve_by`: b takes the right side, lin_solve puts the solution in its place, and rhs takes that. Assumes nothing.
use Rattle.std.specs.Prelude.{◌≡◌, ℕ, ◌+◌, ◌-◌, ◌*◌, ◌≤◌, List, length, take}
use mathlib.Core.Path.{◌∙◌}
use native.Mathlib.Omega.{arith}
use lib.Ieee.{Float}
use Rattle.loops.specs.Part.{part}
use Rattle.loops.specs.Refusal.{Outcome}
use Rattle.matrix.specs.Linear.{lin_solve_of, SolveOutcome}
use Rattle.rules.specs.Places.{rhs, row}
use Rattle.rules.specs.Moves.{loaded}
use Rattle.rules.proofs.laws.PartLaws.{loaded_whole, loaded_part}
use Rattle.rules.specs.Newton.{solved}
use Rattle.bdf.proofs.newton.solve_by.Goals as goal

-- b₀ as it was lent, b₁ with the right side, b₂ with the solution
solves : (n : ℕ) (pivot : List ℕ) (ws b₀ b₁ b₂ after : List Float) (said : Outcome Unit) → length b₀ ≡ n → row n rhs + n ≤ length ws → length b₂ ≡ n →
    b₁ ≡ loaded ws (row n rhs) 0 n b₀ → ◌≡◌ {A = SolveOutcome} (said, b₂) (lin_solve_of (part (n * n) (n * n + n * n - n * n) ws) b₁ (take n pivot)) → after ≡ loaded b₂ 0 (row n rhs) n ws → after ≡ solved n pivot ws
unfolding solved
solves n pivot ws b₀ b₁ b₂ after said whole within same first second third =
    let right : b₁ ≡ part (row n rhs) n ws = first ∙ loaded_whole ws (row n rhs) n b₀ within whole in
    let back : loaded b₂ 0 (row n rhs) n ws ≡ _ = loaded_part b₂ (row n rhs) n ws same within in
    let square : n * n + n * n - n * n ≡ n * n = omega arith in
    let answered : ◌≡◌ {A = SolveOutcome} (said, b₂) (lin_solve_of (part (n * n) (n * n) ws) b₁ (take n pivot)) = rw square at second in
    rw (← right, ← answered) (third ∙ back)

pub returns : goal.returns
returns c =
    let place = c.row-at.ensures in
    solves _ _ _ _ _ _ _ _ c.requires.1 (omega arith) (omega arith) (rw place at c.load.ensures) c.lin_solve.ensures (rw place at c.load-2.ensures)
