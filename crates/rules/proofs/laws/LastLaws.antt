-- An end is the last answer of its exchange, since every call after it is refused; and it comes after just one start notice, as the
-- table of places says of a run that has ended (`Standing`).
use Rattle.std.specs.Prelude.{◌≡◌, refl, List, [], ◌∷◌, Bool, true, false, ◌≤◌, length}
use Rattle.std.proofs.Common.{sym, ap, ◌∙◌, true≢false, arith}
use Rattle.std.proofs.lemmas.Bool.{false≢true}
use Rattle.rules.specs.Types.{Progress, Run, Turn, Answer, Awaited, FirstDerivative, FirstJacobian, StartDerivative, StartNotice, ModifiedStartDerivative, ModifiedStartJacobian, NewtonDerivative, FailedJacobian, StepNotice, ModifiedStepDerivative, ModifiedStepJacobian, OrderJacobian, Ended}
use Rattle.rules.specs.State.{After}
use Rattle.rules.specs.Replies.{is_ended}
use Rattle.rules.specs.Answers.{is_end, is_refused}
use Rattle.rules.specs.Calls.{Configuration, Call}
use Rattle.rules.specs.History.{called, Exchange, begins, goes_on, is_refused_call, tally, start_notices}
use Rattle.rules.specs.laws.Standing.{here}
use Rattle.rules.proofs.laws.ExchangeLaws.{Kept, idle, works}
use Rattle.rules.proofs.promises.NeverDamaged.{ToldItEnded, refused_after_the_end}

-- ---- it is the last

-- none before the last answer
abbrev pub NoneBefore : List Answer → Type 0
NoneBefore [] = Unit
NoneBefore (a ∷ h) = tally is_end h ≡ 0

-- and the last is none
abbrev Going : List Answer → Type 0
Going [] = Unit
Going (a ∷ h) = is_end a ≡ false

none_so_far : (h : List Answer) → Going h → NoneBefore h → tally is_end h ≡ 0
none_so_far [] going none = refl
none_so_far (a ∷ h) going none = rw going (omega arith)

-- where a call is not refused, no end was told yet
going_before :
    {c : Configuration} {run : Run} (h : List Answer) → Exchange c run h → (call : Call) → is_refused (called run call).answer ≡ false → Going h
going_before [] ex call taken = tt
going_before {run = run} (a ∷ h) ex call taken = unless_ended (is_end a) (λ over. refused_after_the_end ex call over)
  where
    unless_ended : (b : Bool) → (b ≡ true → ToldItEnded run call) → b ≡ false
    unless_ended true told = absurd (true≢false (sym (ap (λ (g : After Turn). is_refused g.is.answer) (told refl)) ∙ taken))
    unless_ended false told = refl

pub none_before : {c : Configuration} {run : Run} {h : List Answer} → Exchange c run h → NoneBefore h
none_before (begins ws q e) = refl
none_before (goes_on {h = h} ex call e) = none_so_far h (going_before h ex call e) (none_before ex)
none_before (is_refused_call ex call e) = none_before ex

-- ---- after one start notice

ended_starts : (p : Progress) (w : Awaited) → is_ended w ≡ true → (here p w).starts ≡ 1
ended_starts p FirstDerivative e = absurd (false≢true e)
ended_starts p FirstJacobian e = absurd (false≢true e)
ended_starts p StartDerivative e = absurd (false≢true e)
ended_starts p StartNotice e = refl
ended_starts p ModifiedStartDerivative e = refl
ended_starts p ModifiedStartJacobian e = refl
ended_starts p NewtonDerivative e = refl
ended_starts p FailedJacobian e = refl
ended_starts p StepNotice e = refl
ended_starts p ModifiedStepDerivative e = refl
ended_starts p ModifiedStepJacobian e = refl
ended_starts p OrderJacobian e = refl
ended_starts p Ended e = refl

pub one_start :
    {c : Configuration} {run : Run} {a : Answer} {h : List Answer} → 1 ≤ length c.y0 → Kept c run (a ∷ h) → is_end a ≡ true →
    start_notices (a ∷ h) ≡ 1
one_start some (idle none) over = absurd (omega arith)
one_start {run = run} some (works s i t) over = i.starting ∙ ended_starts run.at run.awaited (sym t.ended ∙ over)
