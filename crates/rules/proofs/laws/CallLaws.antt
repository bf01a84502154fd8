-- The cases that a beginning and a call come in, by which what holds of them is shown: refused with nothing changed, or past the
-- checks.
use Rattle.std.specs.Prelude.{◌≡◌, List, ◌≤◌, length, Float, Result, Ok, Err, ⊤}
use Rattle.std.proofs.Math.Path.{refl}
use Rattle.std.proofs.Common.{arith}
use borrow.Author.Tests.{ltb-false, eqb-true, eqb-false}
use Rattle.loops.specs.laws.ChoiceLaws.{either}
use Rattle.loops.specs.Arithmetic.{+0}
use Rattle.matrix.specs.Size.{max_n}
use Rattle.rules.specs.Types.{Refusal, TooManyComponents, Refused, End, Success, Ended, Run, Turn}
use Rattle.rules.specs.State.{turn, After, after}
use Rattle.rules.specs.Begin.{nothing, begin_of}
use Rattle.rules.specs.GoOn.{go_on_of}
use Rattle.rules.specs.Calls.{Configuration, beginning, beginning_checked, beginning_turn, beginning_passed, Call, going_on, going_on_checked, going_on_turn, going_on_passed}

module _ (P : After Turn → Type 0) where
  -- a beginning is refused, has nothing to do, or passes the checks
  pub beginning_cases :
      (c : Configuration) (ws q : List Float) →
      ((why : Refusal) → P (after (turn (Refused why) Ended nothing) ws q)) →
      (length c.y0 ≡ 0 → P (after (turn (End Success +0) Ended nothing) ws q)) →
      (1 ≤ length c.y0 → length c.y0 ≤ max_n → beginning_checked c ws q ≡ Ok tt → P (beginning_passed c ws q)) →
      P (beginning c ws q)
  unfolding begin_of
  beginning_cases c ws q refused idle passed =
      either P _
      (λ _. refused TooManyComponents)
      (λ few. either P _
      (λ none. idle (eqb-true (length c.y0) 0 none))
      (λ some. by_check (beginning_checked c ws q)
      (passed (omega (arith, eqb-false (length c.y0) 0 some)) (ltb-false max_n (length c.y0) few))))
    where
      by_check :
          (k : Result ⊤ Refusal) → (k ≡ Ok tt → P (beginning_passed c ws q)) →
          P (beginning_turn c k ws q)
      by_check (Err why) pass = refused why
      by_check (Ok tt) pass = pass refl

  -- a call is refused, or passes the checks
  pub going_on_cases :
      (run : Run) (call : Call) →
      ((why : Refusal) → P (after (record { answer = Refused why; run = run }) call.ws call.q)) →
      (going_on_checked run call ≡ Ok tt → P (going_on_passed run call)) →
      P (going_on run call)
  unfolding go_on_of
  going_on_cases run call refused passed = by_check (going_on_checked run call) passed
    where
      by_check : (k : Result ⊤ Refusal) → (k ≡ Ok tt → P (going_on_passed run call)) → P (going_on_turn run call k)
      by_check (Err why) pass = refused why
      by_check (Ok tt) pass = pass refl
