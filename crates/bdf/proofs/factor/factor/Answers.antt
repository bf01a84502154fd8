-- `factor::factor`: the matrix, then lu_decomp on the part where it stands and on the first n pivots; whatever it answers, what
-- it left there is kept. Assumes nothing.
use Rattle.std.specs.Prelude.{◌≡◌, refl, ℕ, ◌+◌, ◌-◌, ◌*◌, Bool, List, ◌++◌, take, drop, Float, Result, Ok, Err}
use Rattle.std.proofs.Common.{sym, ◌∙◌, arith}
use Rattle.std.specs.Result.{is_ok}
use Rattle.loops.specs.Part.{part, over}
use Rattle.loops.specs.Refusal.{Outcome}
use Rattle.matrix.specs.declared.lu.LuError.{LuError}
use Rattle.matrix.specs.declared.lu.LuError.TheVariants.{WrongSize, Singular}
use Rattle.matrix.specs.Lu.{lu_decomp_of, LuOutcome, factoring_of}
use Rattle.rules.specs.State.{left}
use Rattle.rules.specs.Factor.{matrix, factored, went}
use Rattle.bdf.proofs.factor.factor.Goals as goal

-- w with the matrix, a and ip what lu_decomp left in its part of w and in the first n pivots
factors : (n : ℕ) (c : Float) (pivot ip : List ℕ) (ws w a : List Float) (said : Outcome Unit) (ok : Bool) → w ≡ matrix n c ws →
    ◌≡◌ {A = LuOutcome} (said, a, ip) (lu_decomp_of (part (n * n) (n * n + n * n - n * n) w) (take n pivot)) → went said ≡ ok →
    left (record { ok = ok; pivot = ip ++ drop n pivot }) (over (n * n) (n * n + n * n - n * n) (λ _. a) w) ≡ factored n c pivot ws
unfolding factored
factors n c pivot ip ws w a said ok first second third =
    let square : n * n + n * n - n * n ≡ n * n = omega arith in
    let answered : ◌≡◌ {A = LuOutcome} (said, a, ip) (lu_decomp_of (part (n * n) (n * n) w) (take n pivot)) = rw square at second in
    rw (square, ← first, ← answered, third)

ended : (r : Result (Unit {0}) LuError) → went (factoring_of r) ≡ is_ok r
ended (Ok _) = refl
ended (Err WrongSize) = refl
ended (Err Singular) = refl

pub returns : goal.returns
returns c = factors _ _ _ _ _ _ _ _ _ c.matrix_rows.ensures c.lu_decomp.ensures (ended _ ∙ sym c.is_ok.ensures.value)
