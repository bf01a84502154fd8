-- What holds in every exchange, by induction over its calls: what the beginning set is as the configuration says, the counters
-- stand by the table of places, and the pivots come from factorings.
use Rattle.std.specs.Prelude.{◌≡◌, refl, List, [], ◌∷◌, false, ◌≤◌, max, length, replicate, Float, Ok}
use Rattle.std.proofs.Common.{sym, ap, ◌∙◌, subst, true≢false}
use Rattle.std.proofs.lemmas.Bool.{false≢true}
use native.Mathlib.Omega.{arith}
use Rattle.loops.specs.Arithmetic.{+0}
use Rattle.matrix.specs.Size.{max_n}
use Rattle.rules.specs.Types.{Progress, Span, Derivative, Answer, Turn, Run, End, Success, Ended, FirstDerivative}
use Rattle.rules.specs.State.{After}
use Rattle.rules.proofs.laws.CheckLaws.{Bounded, bounded}
use Rattle.rules.specs.Begin.{guard_of, span_of, kept, nothing, ask_first, begin_run}
use Rattle.rules.specs.GoOn.{go_within}
use Rattle.rules.proofs.laws.GoOnLaws.{handed}
use Rattle.rules.specs.laws.Moved.{Repivoted, as_before}
use Rattle.rules.proofs.laws.MovedLaws.{repivoted_twice}
use Rattle.rules.specs.Answers.{is_refused}
use Rattle.rules.specs.Calls.{Configuration, direction, beginning, beginning_checked, beginning_passed, Call, going_on_checked, going_on_passed}
use Rattle.rules.proofs.laws.CallLaws.{beginning_cases, going_on_cases}
use Rattle.rules.proofs.promises.RefusalLaws.{refused_call}
use Rattle.rules.specs.History.{called, Exchange, begins, goes_on, is_refused_call}
use Rattle.rules.specs.laws.Standing.{here, Stands, Stays, Tells}
use Rattle.rules.proofs.laws.HistoryLaws.{automatic_early}
use Rattle.rules.proofs.laws.PlaceLaws.{replied_leads}

-- what the beginning set, in a state of n components
pub record Set (c : Configuration) (p : Progress) : Type 0 where
  pub some : 1 ≤ length c.y0
  pub few : length c.y0 ≤ max_n
  pub bounded : Bounded c.settings
  pub same_n : p.n ≡ length c.y0
  pub same_steps : p.limits.steps ≡ c.settings.max_steps
  pub same_newton : p.limits.newton ≡ max c.settings.newton_maxiter 1
  pub same_first : p.span.first_step ≡ c.settings.first_step
  pub same_guard : p.limits.guarded ≡ guard_of c.settings.guarded
  pub same_end : p.span.xend ≡ c.xend
  pub same_direction : p.span.direction ≡ direction c
  pub pivots : Repivoted p.n (replicate max_n 0) p.pivot

-- a run with nothing to do has ended at once; any other is set, stands and tells
pub data Kept (c : Configuration) : Run → List Answer → Type 0 where
  idle : length c.y0 ≡ 0 → Kept c (record { awaited = Ended; at = nothing }) (End Success +0 ∷ [])
  works :
      {run : Run} {a : Answer} {h : List Answer} → Set c run.at → Stands c (here run.at run.awaited) run.at (a ∷ h) →
      Tells run.awaited (here run.at run.awaited) a → Kept c run (a ∷ h)

-- ---- the beginning

module _ (c : Configuration) where
  passed_begins :
      (ws q : List Float) → 1 ≤ length c.y0 → length c.y0 ≤ max_n → beginning_checked c ws q ≡ Ok tt →
      let t = (beginning_passed c ws q).is in Kept c t.run (t.answer ∷ [])
  unfolding begin_run ask_first kept span_of
  passed_begins ws q some few e =
      let p = kept c.settings (length c.y0) c.x0 c.xend c.rtol c.rtols in
      let none = automatic_early c (Derivative c.x0 ∷ []) (omega arith) in
      let stands : Stands c (here p FirstDerivative) p (Derivative c.x0 ∷ []) = omega arith in
      works
      (record {
        some = some;
        few = few;
        bounded = bounded _ _ _ _ _ _ _ _ _ e;
        same_n = refl;
        same_steps = refl;
        same_newton = refl;
        same_first = refl;
        same_guard = refl;
        same_end = refl;
        same_direction = refl;
        pivots = as_before;
      })
      stands
      (record { ended = refl; quiet = λ n. absurd (false≢true n) })

  -- what is to be shown of an answer that begins
  abbrev Begins : After Turn → Type 0
  Begins t = is_refused t.is.answer ≡ false → Kept c t.is.run (t.is.answer ∷ [])

  beginning_kept : (ws q : List Float) → Begins (beginning c ws q)
  beginning_kept ws q =
      beginning_cases Begins c ws q (λ why r. absurd (true≢false r)) (λ none _. idle none) (λ some few e _. passed_begins ws q some few e)

-- ---- going on

module _ {c : Configuration} where
  -- what the beginning set stays
  set_stays : {p r : Progress} → Set c p → Stays p r → Set c r
  set_stays {p} {r} s t =
      record {
        some = s.some;
        few = s.few;
        bounded = s.bounded;
        same_n = t.same_n ∙ s.same_n;
        same_steps = t.same_steps ∙ s.same_steps;
        same_newton = t.same_newton ∙ s.same_newton;
        same_first = ap (λ (x : Span). x.first_step) t.same_span ∙ s.same_first;
        same_guard = t.same_guard ∙ s.same_guard;
        same_end = ap (λ (x : Span). x.xend) t.same_span ∙ s.same_end;
        same_direction = ap (λ (x : Span). x.direction) t.same_span ∙ s.same_direction;
        pivots = rw t.same_n (repivoted_twice s.pivots t.pivots);
      }

  passed_kept :
      {run : Run} {h : List Answer} → Kept c run h → (call : Call) → going_on_checked run call ≡ Ok tt →
      let t = (going_on_passed run call).is in Kept c t.run (t.answer ∷ h)
  unfolding go_within
  passed_kept (idle none) call e =
      let some = (handed Ended nothing call.reply call.values call.ws call.q e).ready.room.some in absurd (omega (arith, some))
  passed_kept {run} (works s i t) call e =
      let n = replied_leads c run.awaited run.at call.reply call.values _ call.q s.same_first s.some i in
      works (set_stays s n.stays) n.stands n.tells

  call_kept :
      {run : Run} {h : List Answer} → Kept c run h → (call : Call) → is_refused (called run call).answer ≡ false →
      Kept c (called run call).run ((called run call).answer ∷ h)
  call_kept {run} {h} k call = going_on_cases GoesOn run call (λ why r. absurd (true≢false r)) (λ e _. passed_kept k call e)
    where
      GoesOn : After Turn → Type 0
      GoesOn g = is_refused g.is.answer ≡ false → Kept c g.is.run (g.is.answer ∷ h)

  pub exchange_kept : {run : Run} {h : List Answer} → Exchange c run h → Kept c run h
  exchange_kept (begins ws q e) = beginning_kept c ws q e
  exchange_kept (goes_on x call e) = call_kept (exchange_kept x) call e
  exchange_kept (is_refused_call {run = run} {h = h} x call e) =
      subst (λ (r : Run). Kept c r h) (sym (ap (λ (g : After Turn). g.is.run) (refused_call run call e))) (exchange_kept x)
