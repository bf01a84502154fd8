-- A guarded run and an unguarded one, call by call: beginning and going on with the guard set otherwise do the same, but for the guard in
-- the state, as long as no attempt is judged whose error norm is NaN. The checks do not read the guard, and no stage but the judgement
-- does (BlindLaws).
use Rattle.std.specs.Prelude.{◌≡◌, List, ◌++◌, Bool, true, false, not, ◌&&◌, take, Float, Result, Ok, Err, ⊤}
use Rattle.std.proofs.Math.Path.{refl, ap, subst}
use Rattle.std.proofs.Common.{sym, ◌∙◌}
use Rattle.std.proofs.Math.ListN.{drop}
use Rattle.std.specs.Float.Ieee.{is_nan}
use Rattle.loops.specs.laws.ChoiceLaws.{through}
use Rattle.rules.specs.Types.{Awaited, Reply, Answer, Progress, Run, Turn, Refusal}
use Rattle.rules.specs.Types.{FirstDerivative, FirstJacobian, StartDerivative, StartNotice, ModifiedStartDerivative, ModifiedStartJacobian, NewtonDerivative, FailedJacobian, StepNotice, ModifiedStepDerivative, ModifiedStepJacobian, OrderJacobian, Ended}
use Rattle.rules.specs.State.{turn, After, after}
use Rattle.rules.specs.Places.{need}
use Rattle.rules.specs.Answers.{is_refused}
use Rattle.rules.specs.Replies.{awaits_newton}
use Rattle.rules.specs.Checks.{limited, tolerances_checked, checked}
use Rattle.rules.specs.Begin.{nothing, span_of, kept, ask_first, begin_run, begin_of}
use Rattle.rules.specs.GoOn.{limits_damaged, steps_damaged, counters_damaged, damaged_above0, damaged, go_checked, go_within, go_on_of}
use Rattle.rules.specs.Calls.{Configuration, beginning, beginning_checked, beginning_turn, Call, going_on, going_on_checked, going_on_turn, size, Untouched}
use Rattle.rules.specs.History.{called}
use Rattle.rules.specs.Beside.{Unread, guard_set_to, run_beside, call_beside}
use Rattle.rules.specs.Guarding.{guarded_as, is_judged, error_norm, judges_nan, meets_nan}
use Rattle.rules.specs.laws.Agree.{Alike, Agree}
use Rattle.rules.proofs.laws.AgreeLaws.{go_on_agrees}
use Rattle.rules.proofs.laws.BlindLaws.{Quiet, replied_blind}
use Rattle.rules.proofs.promises.RefusalLaws.{passed_answers}

-- ---- beginning

module _ (b : Bool) (c : Configuration) where
  -- what is kept of the settings but the guard, and what they are checked for, is the same
  begin_turn_blind :
      (k : Result ⊤ Refusal) (ws q : List Float) →
      beginning_turn (guarded_as false c) k ws q ≡ call_beside (guard_set_to false) (beginning_turn (guarded_as b c) k ws q)
  unfolding begin_run ask_first kept span_of call_beside
  begin_turn_blind (Err why) ws q = refl
  begin_turn_blind (Ok tt) ws q = refl

  -- a beginning that is refused, or that has nothing to do: its state has the guard off
  nothing_blind : (a : Answer) (ws q : List Float) → after (turn a Ended nothing) ws q ≡ call_beside (guard_set_to false) (after (turn a Ended nothing) ws q)
  unfolding call_beside
  nothing_blind a ws q = refl

  pub begin_blind : (ws q : List Float) → beginning (guarded_as false c) ws q ≡ call_beside (guard_set_to false) (beginning (guarded_as b c) ws q)
  unfolding begin_of checked tolerances_checked limited
  begin_blind ws q =
      through (call_beside (guard_set_to false)) refl
      (λ _. nothing_blind _ ws q)
      (λ _. through (call_beside (guard_set_to false)) refl (λ _. nothing_blind _ ws q) (λ _. begin_turn_blind (beginning_checked c ws q) ws q))

-- ---- going on

-- a call past the checks that meets no NaN is quiet
quiet_by :
    (w : Awaited) (p : Progress) (values ws : List Float) →
    (awaits_newton w && (is_judged p values ws && is_nan (error_norm p values ws))) ≡ false → Quiet w p values ws
quiet_by FirstDerivative p values ws e = tt
quiet_by FirstJacobian p values ws e = tt
quiet_by StartDerivative p values ws e = tt
quiet_by StartNotice p values ws e = tt
quiet_by ModifiedStartDerivative p values ws e = tt
quiet_by ModifiedStartJacobian p values ws e = tt
quiet_by NewtonDerivative p values ws e = λ judged. rw judged at e
quiet_by FailedJacobian p values ws e = tt
quiet_by StepNotice p values ws e = tt
quiet_by ModifiedStepDerivative p values ws e = tt
quiet_by ModifiedStepJacobian p values ws e = tt
quiet_by OrderJacobian p values ws e = tt
quiet_by Ended p values ws e = tt

module _ (run : Run) (call : Call) where
  -- past the checks it is not refused
  pub passed_is_taken : going_on_checked run call ≡ Ok tt → is_refused (called run call).answer ≡ false
  unfolding go_on_of
  passed_is_taken e = subst (λ (k : Result ⊤ Refusal). is_refused (going_on_turn run call k).is.answer ≡ false) (sym e) (passed_answers run call e)

  pub quiet : meets_nan run call ≡ false → going_on_checked run call ≡ Ok tt → Quiet run.awaited run.at call.values (take (need run.at.n) call.ws)
  unfolding meets_nan
  quiet e passed = quiet_by run.awaited run.at _ _ (rw (passed_is_taken passed) at e)

module _ (u : Unread) (run : Run) (call : Call) where
  checks_blind : going_on_checked (run_beside u run) call ≡ going_on_checked run call
  unfolding go_checked damaged damaged_above0 limits_damaged steps_damaged counters_damaged
  checks_blind = refl

  turn_blind :
      (k : Result ⊤ Refusal) → (k ≡ Ok tt → Quiet run.awaited run.at call.values (take (need run.at.n) call.ws)) →
      going_on_turn (run_beside u run) call k ≡ call_beside u (going_on_turn run call k)
  unfolding go_within call_beside
  turn_blind (Err why) still = refl
  turn_blind (Ok tt) still =
      ap (λ (g : After Turn). after g.is (g.ws ++ drop (need run.at.n) call.ws) g.q)
      (replied_blind u run.awaited run.at call.reply call.values _ call.q (still refl))

  pub go_on_blind : meets_nan run call ≡ false → going_on (run_beside u run) call ≡ call_beside u (going_on run call)
  unfolding go_on_of
  go_on_blind e = rw checks_blind (turn_blind (going_on_checked run call) (quiet run call e))

-- ---- whether a call meets a NaN

abbrev refuses : Result ⊤ Refusal → Bool
refuses (Err why) = true
refuses (Ok tt) = false

refused_by : (run : Run) (call : Call) (k : Result ⊤ Refusal) → going_on_checked run call ≡ k → is_refused (called run call).answer ≡ refuses k
unfolding go_on_of
refused_by run call (Err why) e = ap (λ (k : Result ⊤ Refusal). is_refused (going_on_turn run call k).is.answer) e
refused_by run call (Ok tt) e = passed_is_taken run call e

-- does not turn on the guard
meets_blind : (u : Unread) (run : Run) (call : Call) → meets_nan (run_beside u run) call ≡ meets_nan run call
unfolding meets_nan
meets_blind u run call =
    rw (refused_by (run_beside u run) call _ (checks_blind u run call), refused_by run call _ refl)

-- nor on what the slices hold beyond the needed places
meets_within :
    {run run' : Run} → run ≡ run' → (call call' : Call) → call.values ≡ call'.values →
    take (need run.at.n) call.ws ≡ take (need run.at.n) call'.ws →
    is_refused (called run call).answer ≡ is_refused (called run' call').answer → meets_nan run call ≡ meets_nan run' call'
unfolding meets_nan
meets_within {run} {run'} e call call' v t r =
    rw (r, v, t) (ap (λ (s : Run). not (is_refused (called run' call').answer) && judges_nan s call'.values (take (need s.at.n) call'.ws)) e)

-- so of two callers that agree but for the guard both meet it in the same call, or neither does
pub meets_together :
    {g : After Turn} (h : After Turn) (u : Unread) (r : Reply) (values ws ws' q q' : List Float) → Agree g (call_beside u h) → Untouched g ws → Untouched h ws' →
    Alike (size g) q q' →
    meets_nan g.is.run (record { reply = r; values = values; ws = ws; q = q }) ≡
    meets_nan h.is.run (record { reply = r; values = values; ws = ws'; q = q' })
unfolding call_beside
meets_together {g} h u r values ws ws' q q' a kept kept' alike =
    let agrees = go_on_agrees {g = g} {h = call_beside u h} r values ws ws' q q' a kept kept' alike in
    let same-run : g.is.run ≡ run_beside u h.is.run = ap (λ (t : Turn). t.run) a.turns in
    let back : Untouched (after g.is h.ws h.q) ws' = rw a.turns kept' in
    meets_within same-run _ _ refl (kept.1 ∙ a.places ∙ sym back.1) (ap (λ (t : Turn). is_refused t.answer) agrees.turns)
    ∙ meets_blind u h.is.run _
