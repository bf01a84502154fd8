-- A refusal changes nothing: whatever is handed over, forged states among it, a refused call leaves every lent slice as it was
-- and hands back the state that it was given (a refused beginning: one that has ended). For past the checks nothing refuses.
use Rattle.std.specs.Prelude.{◌≡◌, refl, List, true, false, take, Float, Ok}
use Rattle.std.proofs.Common.{sym, ◌∙◌, true≢false}
use Rattle.std.proofs.lemmas.Bool.{false≢true}
use Rattle.std.proofs.Math.Seq.{length-take-le}
use Rattle.rules.specs.Types.{Run, Turn, Ended}
use Rattle.rules.specs.Answers.{is_refused, written}
use Rattle.rules.specs.Places.{need}
use Rattle.rules.specs.State.{turn, After, after}
use Rattle.rules.specs.Begin.{nothing, ask_first, begin_run}
use Rattle.rules.specs.GoOn.{go_within}
use Rattle.rules.proofs.laws.GoOnLaws.{handed}
use Rattle.rules.specs.Calls.{Configuration, beginning, Call, going_on, going_on_checked, going_on_passed}
use Rattle.rules.proofs.laws.CallLaws.{beginning_cases, going_on_cases}
use Rattle.rules.proofs.laws.QuestionLaws.{Says}
use Rattle.rules.proofs.laws.SpeakLaws.{replied_speaks}

module _ (run : Run) (call : Call) (e : going_on_checked run call ≡ Ok tt) where
  -- past the checks a call says what its answer tells, and waits for what it asks for
  pub passed_says : let t = (going_on_passed run call).is in Says run.at.n t (written run.at.n t.answer)
  unfolding go_within
  passed_says =
      let good = handed run.awaited run.at call.reply call.values call.ws call.q e in
      let wide = need run.at.n in
      let exact = length-take-le wide call.ws good.works in
      let s = replied_speaks run.at call.values (take wide call.ws) exact run.awaited call.reply in
      rw (s.says call.q good.ready.asks) (refl, s.fits.1, s.fits.2, s.fits.3)

  -- so past the checks nothing refuses
  pub passed_answers : is_refused (going_on_passed run call).is.answer ≡ false
  passed_answers = passed_says.2

-- a call that is refused leaves the workspace and the question slice, and hands back the state that it was given
pub refused_call :
    (run : Run) (call : Call) → is_refused (going_on run call).is.answer ≡ true →
    going_on run call ≡ after (record { answer = (going_on run call).is.answer; run = run }) call.ws call.q
refused_call run call =
    going_on_cases Unchanged run call (λ why _. refl) (λ e r. absurd (true≢false (sym r ∙ passed_answers run call e)))
  where
    Unchanged : After Turn → Type 0
    Unchanged g = is_refused g.is.answer ≡ true → g ≡ after (record { answer = g.is.answer; run = run }) call.ws call.q

-- a beginning that is refused leaves them too, and hands back a state that has ended
pub refused_beginning :
    (c : Configuration) (ws q : List Float) → is_refused (beginning c ws q).is.answer ≡ true →
    beginning c ws q ≡ after (turn (beginning c ws q).is.answer Ended nothing) ws q
unfolding begin_run ask_first
refused_beginning c ws q =
    beginning_cases Unchanged c ws q (λ why _. refl) (λ _ r. absurd (false≢true r)) (λ _ _ _ r. absurd (false≢true r))
  where
    Unchanged : After Turn → Type 0
    Unchanged g = is_refused g.is.answer ≡ true → g ≡ after (turn g.is.answer Ended nothing) ws q
