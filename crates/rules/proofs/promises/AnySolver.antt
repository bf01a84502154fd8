-- Demand 3 of every solver that meets the contracts: an exchange with it is one of ours, so its counters are those of the history.
-- And each transcript without a refusal is such an exchange, so the demand speaks of every transcript.
use Rattle.std.specs.Prelude.{◌≡◌, refl, true, false, Float}
use Rattle.std.proofs.Common.{sym, subst}
use mathlib.Core.List.{List, [], ◌∷◌}
use Rattle.rules.specs.Types.{Answer, Run, Turn}
use Rattle.rules.specs.Answers.{is_refused, NoticeOrEnd}
use Rattle.rules.specs.State.{After}
use Rattle.rules.specs.Calls.{Configuration, Call}
use Rattle.rules.specs.History.{Exchange, begins, goes_on, is_refused_call}
use Rattle.rules.proofs.promises.Demand3.{Counted, demand_3, StartShown, start_is_1_once_asked}
use Rattle.rules.proofs.promises.Solver.{Solver, Meets, Line, line, Replied, next, later, transcript}

-- ---- an exchange with a solver

-- `Exchange` of History.antt, over the two functions of o: an accepted configuration, then any replies at all, each call handing
-- back the state last returned; a refused call adds no answer
pub data ExchangeWith (o : Solver) (c : Configuration) : Run → List Answer → Type 0 where
  has_begun :
      (ws q : List Float) → is_refused (o.begins c ws q).is.answer ≡ false →
      ExchangeWith o c (o.begins c ws q).is.run ((o.begins c ws q).is.answer ∷ [])
  has_gone_on :
      {run : Run} {h : List Answer} → ExchangeWith o c run h → (call : Call) → is_refused (o.goes_on run call).is.answer ≡ false →
      ExchangeWith o c (o.goes_on run call).is.run ((o.goes_on run call).is.answer ∷ h)
  was_refused :
      {run : Run} {h : List Answer} → ExchangeWith o c run h → (call : Call) → is_refused (o.goes_on run call).is.answer ≡ true →
      ExchangeWith o c (o.goes_on run call).is.run h

module _ {o : Solver} (m : Meets o) {c : Configuration} where
  -- it is one of ours
  pub exchange_is_ours : {run : Run} {h : List Answer} → ExchangeWith o c run h → Exchange c run h
  exchange_is_ours (has_begun ws q e) =
      subst (λ (g : After Turn). is_refused g.is.answer ≡ false → Exchange c g.is.run (g.is.answer ∷ []))
      (sym (m.begins c ws q)) (begins ws q) e
  exchange_is_ours (has_gone_on {run = run} {h = h} x call e) =
      subst (λ (g : After Turn). is_refused g.is.answer ≡ false → Exchange c g.is.run (g.is.answer ∷ h))
      (sym (m.goes_on run call)) (goes_on (exchange_is_ours x) call) e
  exchange_is_ours (was_refused {run = run} {h = h} x call e) =
      subst (λ (g : After Turn). is_refused g.is.answer ≡ true → Exchange c g.is.run h)
      (sym (m.goes_on run call)) (is_refused_call (exchange_is_ours x) call) e

  -- so its counters are demand 3's, at every notice and at the end
  pub every_solver_counts : {run : Run} {a : Answer} {h : List Answer} → ExchangeWith o c run (a ∷ h) → NoticeOrEnd a → Counted c run (a ∷ h)
  every_solver_counts x n = demand_3 (exchange_is_ours x) n

  -- and its `start` is the history's, after every answer
  pub every_solver_shows_the_start : {run : Run} {h : List Answer} → ExchangeWith o c run h → StartShown c run h
  every_solver_shows_the_start x = start_is_1_once_asked (exchange_is_ours x)

-- ---- a transcript is an exchange

-- the last outcome of a row of replies that follow g
abbrev pub last_of : Solver → After Turn → List Replied → After Turn
last_of o g [] = g
last_of o g (r ∷ replies) = last_of o (next o g r) replies

-- the lines' answers, the last one first, before those of h
abbrev pub answers_of : List Line → List Answer → List Answer
answers_of [] h = h
answers_of (l ∷ lines) h = answers_of lines (l.answer ∷ h)

-- no line is a refusal
abbrev pub AllTaken : List Line → Type 0
AllTaken [] = Unit
AllTaken (l ∷ lines) = (is_refused l.answer ≡ false) × AllTaken lines

module _ (o : Solver) {c : Configuration} where
  later_is_exchanged :
      (g : After Turn) {h : List Answer} (replies : List Replied) → ExchangeWith o c g.is.run h → AllTaken (later o g replies) →
      ExchangeWith o c (last_of o g replies).is.run (answers_of (later o g replies) h)
  unfolding later
  later_is_exchanged g [] x taken = x
  later_is_exchanged g (r ∷ replies) x taken =
      later_is_exchanged (next o g r) replies
      (has_gone_on x (record { reply = r.0; values = r.1; ws = g.ws; q = g.q }) taken.0) taken.1

  pub transcript_is_exchanged :
      (ws q : List Float) (replies : List Replied) → AllTaken (transcript o c ws q replies) →
      ExchangeWith o c (last_of o (o.begins c ws q) replies).is.run (answers_of (transcript o c ws q replies) [])
  transcript_is_exchanged ws q replies taken = later_is_exchanged (o.begins c ws q) replies (has_begun ws q taken.0) taken.1

-- the last line is that of the last outcome
abbrev pub last_line : Line → List Line → Line
last_line l [] = l
last_line l (k ∷ lines) = last_line k lines

pub last_is_told : (o : Solver) (g : After Turn) (replies : List Replied) → line (last_of o g replies) ≡ last_line (line g) (later o g replies)
unfolding later
last_is_told o g [] = refl
last_is_told o g (r ∷ replies) = last_is_told o (next o g r) replies
