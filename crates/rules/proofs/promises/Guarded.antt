-- A NaN error is no pass (02 §8). In a guarded run an attempt whose error norm is NaN is an error rejection of factor 0.5, and is not told
-- as a step. Up to the first such attempt a guarded run and an unguarded one of the same configuration, given the same replies and the
-- workspace untouched between the calls, are the same to their callers; where none comes, to the end. An unguarded run is judged as
-- before: rejected where the norm is above 1 alone.
--
-- Demand 3, never damaged, that a run ends, what an end means, the workspace: each is over any configuration, so for both settings.
use Rattle.std.specs.Prelude.{◌≡◌, refl, List, [], ◌∷◌, Bool, ℕ, ◌+◌, ◌≤◌, ◌<◌, eqb, length, take, Float}
use Rattle.std.proofs.Math.Path.{sym, ap, subst}
use Rattle.std.proofs.Common.{◌∙◌, arith}
use Rattle.std.proofs.Math.Bool.{true, false}
use Rattle.std.proofs.lemmas.Bool.{false≢true}
use Rattle.std.specs.Float.Ieee.{lt, is_nan}
use Rattle.loops.specs.Choice.{when◌then◌else◌}
use Rattle.loops.specs.laws.ChoiceLaws.{false_unless}
use Rattle.loops.specs.Arithmetic.{◌⊗◌, one}
use Rattle.number.specs.Helpers.{max_of}
use Rattle.roots.specs.Roots.{inverse_root}
use Rattle.rules.specs.Types.{Progress, Reply, Answer, Run, Turn, NewtonDerivative, Ended}
use Rattle.rules.specs.Literals.{min_factor, half}
use Rattle.rules.specs.Places.{need}
use Rattle.rules.specs.State.{After}
use Rattle.rules.specs.Step.{is_guarded, error_ws, step_accepted, judged}
use Rattle.rules.specs.Answers.{is_refused, is_step}
use Rattle.rules.specs.Begin.{guard_of}
use Rattle.rules.specs.GoOn.{go_on_of}
use Rattle.rules.specs.Calls.{Configuration, beginning, Call, going_on, size, needed, Untouched}
use Rattle.rules.specs.History.{begun, called, Exchange, begins, goes_on, is_refused_call}
use Rattle.rules.specs.Settings.{defaults}
use Rattle.rules.specs.Beside.{guard_set_to, run_beside, call_beside}
use Rattle.rules.specs.Guarding.{guarded_as, judged_norm, safety_at, rejected_after, meets_nan}
use Rattle.rules.specs.laws.Agree.{written_by, Alike, Agree}
use Rattle.rules.proofs.laws.AgreeLaws.{begin_agrees, go_on_agrees}
use Rattle.rules.specs.laws.Said.{Said, ends, asks}
use Rattle.rules.proofs.laws.MainLoopLaws.{main_loop_says}
use Rattle.rules.proofs.laws.GoOnLaws.{handed}
use Rattle.rules.proofs.laws.ExchangeLaws.{Kept, idle, works, exchange_kept}
use Rattle.rules.proofs.laws.GuardLaws.{begin_blind, go_on_blind, meets_together}
use Rattle.rules.proofs.laws.NanLaws.{judged_guarded_nan, judged_unguarded, newton_guarded_nan, newton_unguarded_nan, Met, met, met_tells}

-- ---- the judgement of a step

-- guarded, a norm that is NaN: half of the step is left, no steps of equal size, the factoring as it was, and one rejection more
pub guarded_nan_is_rejected :
    (p : Progress) (ws q : List Float) → is_guarded p ≡ true → is_nan (judged_norm p ws) ≡ true → judged p ws q ≡ rejected_after half p ws q
guarded_nan_is_rejected p ws q on e = judged_guarded_nan p ws q on e

-- unguarded, as lines 485 to 495 of the Rust have it: above 1 it is rejected by safety times root, at least MIN_FACTOR, and otherwise
-- accepted
pub unguarded_rejects_above_1_alone :
    (p : Progress) (ws q : List Float) → is_guarded p ≡ false →
    judged p ws q ≡
    (when lt one (judged_norm p ws)
    then rejected_after (max_of (safety_at p ⊗ inverse_root (p.order + 1) (judged_norm p ws)) min_factor) p ws q
    else step_accepted p (safety_at p) (judged_norm p ws) (error_ws p.n p.order ws) q)
unguarded_rejects_above_1_alone p ws q off = judged_unguarded p ws q off

-- ---- a call that brings an attempt to its judgement whose norm is NaN, of whatever state

-- it tells no step: the attempt is among the rejected ones, and none was accepted
pub record Rejects (p : Progress) (t : Turn) : Type 0 where
  pub no_step : is_step t.answer ≡ false
  pub rejected : p.steps.rejected < t.run.at.steps.rejected
  pub accepted : t.run.at.steps.accepted ≡ p.steps.accepted

said_rejects : {p r : Progress} {t : Turn} → r.steps.rejected ≡ p.steps.rejected + 1 → r.steps.accepted ≡ p.steps.accepted → Said r t → Rejects p t
said_rejects more same (ends s e cause within m) =
    record { no_step = ap (λ (u : Turn). is_step u.answer) e; rejected = omega (arith, m.counts.rejects); accepted = omega (arith, m.counts.accepts) }
said_rejects more same (asks e fresh within m) =
    record { no_step = ap (λ (u : Turn). is_step u.answer) e; rejected = omega (arith, m.counts.rejects); accepted = omega (arith, m.counts.accepts) }

not_ended : Ended ≡ NewtonDerivative → ⊥
not_ended e = let z : ◌≡◌ {A = ℕ} 0 1 = cc in omega arith

pub nan_is_no_pass : (run : Run) (call : Call) → is_guarded run.at ≡ true → meets_nan run call ≡ true → Rejects run.at (called run call)
nan_is_no_pass run call on e =
    let m = met run call e in
    let p = run.at in
    let counted = (handed run.awaited p call.reply call.values call.ws call.q m.passed).ready.sane.counted in
    let further = newton_guarded_nan p call.values _ call.q m.ends_here m.no_number on in
    subst (Rejects p) (sym (met_tells run call m ∙ ap (λ (g : After Turn). g.is) further.1))
    (said_rejects refl refl (main_loop_says _ further.0 call.q counted))

-- unguarded, as in the Rust, the step is told, and the state has its norm
pub record Passes (p : Progress) (t : Turn) : Type 0 where
  pub step : is_step t.answer ≡ true
  pub norm : is_nan t.run.at.newton.error_norm ≡ true
  pub accepted : t.run.at.steps.accepted ≡ p.steps.accepted + 1

pub unguarded_nan_passes :
    (run : Run) (call : Call) → is_guarded run.at ≡ false → meets_nan run call ≡ true → Passes run.at (called run call)
unguarded_nan_passes run call off e =
    let m = met run call e in
    let told = newton_unguarded_nan run.at call.values _ call.q m.ends_here m.no_number off in
    let state = ap (λ (t : Turn). t.run.at) (met_tells run call m) ∙ told.0 in
    record {
      step = ap (λ (t : Turn). is_step t.answer) (met_tells run call m) ∙ told.1;
      norm = ap (λ (p : Progress). is_nan p.newton.error_norm) state ∙ m.no_number;
      accepted = ap (λ (p : Progress). p.steps.accepted) state;
    }

-- ---- the same over whole exchanges, any replies at all

-- a solver that is told nothing is unguarded
pub off_by_default : defaults.guarded ≡ false
off_by_default = refl

-- the word in the state says what was set
as_set : (b : Bool) → eqb (guard_of b) 1 ≡ b
as_set true = refl
as_set false = refl

module _ {c : Configuration} {run : Run} {h : List Answer} (x : Exchange c run h) where
  -- the state keeps the setting, in a run that has components
  pub guard_is_kept : 1 ≤ length c.y0 → is_guarded run.at ≡ c.settings.guarded
  guard_is_kept some = by (exchange_kept x)
    where
      by : {run : Run} {h : List Answer} → Kept c run h → is_guarded run.at ≡ c.settings.guarded
      by (idle none) = absurd (omega arith)
      by (works s i t) = ap (λ (k : ℕ). eqb k 1) s.same_guard ∙ as_set c.settings.guarded

  -- a run without any has ended, and judges nothing
  meets_with_some : (call : Call) → meets_nan run call ≡ true → 1 ≤ length c.y0
  meets_with_some call e = by (exchange_kept x) (met run call e)
    where
      by : {run : Run} {h : List Answer} → Kept c run h → Met run call → 1 ≤ length c.y0
      by (idle none) m = absurd (not_ended m.waits)
      by (works s i t) m = s.some

  module _ (call : Call) (e : meets_nan run call ≡ true) where
    pub guarded_run_rejects : c.settings.guarded ≡ true → Rejects run.at (called run call)
    guarded_run_rejects on = nan_is_no_pass run call (guard_is_kept (meets_with_some call e) ∙ on) e

    pub unguarded_run_passes : c.settings.guarded ≡ false → Passes run.at (called run call)
    unguarded_run_passes off = unguarded_nan_passes run call (guard_is_kept (meets_with_some call e) ∙ off) e

  -- so a call of a guarded run that tells a step judged no norm that is NaN
  pub told_steps_met_no_nan :
      (call : Call) → c.settings.guarded ≡ true → is_step (called run call).answer ≡ true → meets_nan run call ≡ false
  told_steps_met_no_nan call on told =
      false_unless (meets_nan run call) (λ e. false≢true (sym (guarded_run_rejects call e on).no_step ∙ told))

-- ---- two callers, one guarded

-- what a call left, with the guard of its state off
abbrev pub unguarded : After Turn → After Turn
unguarded g = call_beside (guard_set_to false) g

-- after every call: the same answer, the same numbers in the places of the question slice that it wrote, the same counters, and the same
-- state but for the guard; and the same numbers in the needed places of the workspace
pub record SameButForTheGuard (g h : After Turn) : Type 0 where
  pub answers : g.is.answer ≡ h.is.answer
  pub questions : take (written_by g) g.q ≡ take (written_by g) h.q
  pub evals : g.is.run.at.evals ≡ h.is.run.at.evals
  pub steps : g.is.run.at.steps ≡ h.is.run.at.steps
  pub states : g.is.run ≡ run_beside (guard_set_to false) h.is.run
  pub places : take (needed g) g.ws ≡ take (needed g) h.ws

module _ (c : Configuration) where
  -- Two callers of the same configuration, the first unguarded and the second guarded, call by call, and what each has in hand. They are
  -- accepted, with any two workspaces that are long enough; then each hands back the state that it was left and the workspace, its needed places
  -- untouched, both with the same reply and values, as long as no attempt of the first has an error norm that is NaN. A refused call is a
  -- call like any other; none is for a workspace that is short.
  pub data Abreast : After Turn → After Turn → Type 0 where
    both_begin :
        (ws ws' q q' : List Float) → need (length c.y0) ≤ length ws → need (length c.y0) ≤ length ws' → Alike (length c.y0) q q' →
        is_refused (begun (guarded_as false c) ws q).answer ≡ false →
        Abreast (beginning (guarded_as false c) ws q) (beginning (guarded_as true c) ws' q')
    both_go_on :
        {g h : After Turn} (r : Reply) (values ws ws' q q' : List Float) → Abreast g h → Untouched g ws → Untouched h ws' → Alike (size g) q q' →
        meets_nan g.is.run (record { reply = r; values = values; ws = ws; q = q }) ≡ false →
        Abreast (go_on_of g.is.run r values ws q) (go_on_of h.is.run r values ws' q')

  -- the strong form: the same answer, state but for the guard, needed places and question
  pub abreast_agrees : {g h : After Turn} → Abreast g h → Agree g (unguarded h)
  unfolding call_beside
  abreast_agrees (both_begin ws ws' q q' long long' alike taken) =
      subst (Agree (beginning (guarded_as false c) ws q)) (begin_blind true c ws' q') (begin_agrees (guarded_as false c) ws ws' q q' long long' alike)
  abreast_agrees (both_go_on {g} {h} r values ws ws' q q' before kept kept' alike quiet) =
      let a = abreast_agrees before in
      let none = sym (meets_together h (guard_set_to false) r values ws ws' q q' a kept kept' alike) ∙ quiet in
      subst (Agree (go_on_of g.is.run r values ws q)) (go_on_blind (guard_set_to false) h.is.run _ none)
      (go_on_agrees {g = g} {h = unguarded h} r values ws ws' q q' a kept kept' alike)

  -- ---- the theorem

  pub same_until_a_nan : {g h : After Turn} → Abreast g h → SameButForTheGuard g h
  unfolding call_beside
  same_until_a_nan b =
      let a = abreast_agrees b in
      record {
        answers = ap (λ (t : Turn). t.answer) a.turns;
        questions = a.questions;
        evals = ap (λ (t : Turn). t.run.at.evals) a.turns;
        steps = ap (λ (t : Turn). t.run.at.steps) a.turns;
        states = ap (λ (t : Turn). t.run) a.turns;
        places = a.places;
      }

  -- each is an exchange, and they have one history
  pub record OneHistory (g h : After Turn) : Type 0 where
    pub history : List Answer
    pub first : Exchange (guarded_as false c) g.is.run history
    pub second : Exchange (guarded_as true c) h.is.run history

  -- a call that both are answered alike
  called_alike :
      {run run' : Run} {past : List Answer} → Exchange (guarded_as false c) run past → Exchange (guarded_as true c) run' past →
      (call call' : Call) → (called run call).answer ≡ (called run' call').answer → (b : Bool) → is_refused (called run call).answer ≡ b →
      OneHistory (going_on run call) (going_on run' call')
  called_alike x y call call' same true t =
      record { history = _; first = is_refused_call x call t; second = is_refused_call y call' (sym (ap is_refused same) ∙ t) }
  called_alike {run} {run'} {past} x y call call' same false t =
      record {
        history = (called run call).answer ∷ past;
        first = goes_on x call t;
        second =
            subst (λ (a : Answer). Exchange (guarded_as true c) (called run' call').run (a ∷ past)) (sym same)
            (goes_on y call' (sym (ap is_refused same) ∙ t));
      }

  pub abreast_exchanged : {g h : After Turn} → Abreast g h → OneHistory g h
  abreast_exchanged (both_begin ws ws' q q' long long' alike taken) =
      let same = (same_until_a_nan (both_begin ws ws' q q' long long' alike taken)).answers in
      record {
        history = (begun (guarded_as false c) ws q).answer ∷ [];
        first = begins ws q taken;
        second =
            subst (λ (a : Answer). Exchange (guarded_as true c) (begun (guarded_as true c) ws' q').run (a ∷ [])) (sym same)
            (begins ws' q' (sym (ap is_refused same) ∙ taken));
      }
  abreast_exchanged (both_go_on {g} {h} r values ws ws' q q' before kept kept' alike quiet) =
      let x = abreast_exchanged before in
      let same = (same_until_a_nan (both_go_on r values ws ws' q q' before kept kept' alike quiet)).answers in
      called_alike x.first x.second _ _ same _ refl

  -- and the first attempt whose norm is NaN comes to both in the same call
  pub met_together :
      {g h : After Turn} (r : Reply) (values ws ws' q q' : List Float) → Abreast g h → Untouched g ws → Untouched h ws' → Alike (size g) q q' →
      meets_nan g.is.run (record { reply = r; values = values; ws = ws; q = q }) ≡
      meets_nan h.is.run (record { reply = r; values = values; ws = ws'; q = q' })
  met_together {h = h} r values ws ws' q q' b kept kept' alike =
      meets_together h (guard_set_to false) r values ws ws' q q' (abreast_agrees b) kept kept' alike
