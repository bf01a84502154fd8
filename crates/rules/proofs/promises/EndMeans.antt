-- What an end means, over every exchange, whatever is replied.
--
-- Success           There was nothing to do (n = 0), or the end was reached: 0 <= direction * (x - xend) for the state's x, or
--                   |xend - x| = 0, computed as the solver computes it. So x lies at xend or beyond it in the run's direction. It can
--                   lie a hair beyond, or as far as the caller's own modification put it: Success does not say that x is xend.
-- NeedLargerNMax    T, the attempts, is the step limit.
-- UserInterrupt     The last reply was Interrupt.
-- StepSizeTooSmall  The step's size is below MIN_POSITIVE, or a tenth of the step does not move x (the test against stagnation).
--
-- An exchange has at most one end, and it is its last answer. For n above 0 it tells the step's size with the direction's sign, and
-- comes after one start notice. The last value told is the end's: where nothing was modified after it, the last notice told this very
-- x, and the y that it told is what the workspace holds as y, if each call was handed the workspace as the one before left it. Where
-- the caller did modify after it, x and y are those that the caller gave. And a reply Interrupt, where it is not refused, ends the run.
--
-- The words `Arrived`, `Stuck`, `StillAsTold`, .. are in Known.antt, `Exchange` is in History.antt.
use Rattle.std.specs.Prelude.{◌≡◌, refl, List, ◌∷◌, false, ◌⊎◌, ◌≤◌, length, Float}
use Rattle.std.proofs.Common.{ap, ◌∙◌, true≢false, inl, inr, arith}
use Rattle.loops.specs.Arithmetic.{◌⊗◌}
use Rattle.rules.specs.Types.{Run, Turn, Answer, End, Interrupt, Status, Success, UserInterrupt, NeedLargerNMax, StepSizeTooSmall}
use Rattle.rules.specs.Places.{vector, y}
use Rattle.rules.specs.State.{After}
use Rattle.rules.specs.Answers.{is_end, is_refused}
use Rattle.rules.specs.Attempt.{end}
use Rattle.rules.specs.GoOn.{go_within}
use Rattle.rules.specs.Calls.{Configuration, direction, Call}
use Rattle.rules.specs.History.{called, Exchange, tally, start_notices}
use Rattle.rules.specs.Known.{Arrived, Stuck, LastReply, known_x, known_y, last_told_x, last_told_y, StillAsTold, leaves, LeftAlone}
use Rattle.rules.proofs.promises.Demand3.{T}
use Rattle.rules.proofs.laws.GoOnLaws.{handed}
use Rattle.rules.proofs.laws.CallLaws.{going_on_cases}
use Rattle.rules.proofs.laws.ExchangeLaws.{Set, Kept, idle, works, exchange_kept}
use Rattle.rules.specs.laws.Leading.{Because}
use Rattle.rules.proofs.laws.EndLaws.{interrupted}
use Rattle.rules.proofs.laws.KnownLaws.{known_x_is_told, known_y_is_told, because_kept, place_kept, values_kept}
use Rattle.rules.proofs.laws.LastLaws.{none_before, one_start}

-- ---- the statement

-- of an exchange whose last answer is an end that tells h, by its status
abbrev pub Means : {c : Configuration} {run : Run} {h : List Answer} → Exchange c run h → Float → Status → Type 0
Means {c} {run} ex h Success = (length c.y0 ≡ 0) ⊎ Arrived (direction c) c.xend run.at.x
Means ex h UserInterrupt = LastReply ex Interrupt
Means {c} {run} ex h NeedLargerNMax = T run ≡ c.settings.max_steps
Means {run = run} ex h StepSizeTooSmall = Stuck run.at.pace.h h run.at.x

-- ---- what its status says

meant :
    {c : Configuration} {run : Run} {past : List Answer} (ex : Exchange c run past) (h : Float) (s : Status) → Set c run.at →
    T run ≤ run.at.limits.steps → Because (LastReply ex Interrupt) run.at (End s h) → Means ex h s
meant ex h Success set within r = inr (rw (set.same_direction, set.same_end) at r.1)
meant ex h UserInterrupt set within r = r.1
meant ex h NeedLargerNMax set within r = omega (arith, r.1)
meant ex h StepSizeTooSmall set within r = r.1

means :
    {c : Configuration} {run : Run} {s : Status} {h : Float} {past : List Answer} → Kept c run (End s h ∷ past) →
    (ex : Exchange c run (End s h ∷ past)) → Means ex h s
means (idle none) ex = inl none
means {s = s} {h = h} (works set i t) ex = meant ex h s set i.within (because_kept set.some ex)

tells :
    {c : Configuration} {run : Run} {s : Status} {h : Float} {past : List Answer} → 1 ≤ length c.y0 → Kept c run (End s h ∷ past) →
    Exchange c run (End s h ∷ past) → h ≡ direction c ⊗ run.at.pace.h
tells some (idle none) ex = absurd (omega arith)
tells some (works set i t) ex = rw set.same_direction at (because_kept some ex).0

module _ {c : Configuration} {run : Run} {s : Status} {h : Float} {past : List Answer} (ex : Exchange c run (End s h ∷ past)) where
  pub an_end_means : Means ex h s
  an_end_means = means (exchange_kept ex) ex

  -- h is the step's size with the direction's sign
  pub an_end_tells : 1 ≤ length c.y0 → h ≡ direction c ⊗ run.at.pace.h
  an_end_tells some = tells some (exchange_kept ex) ex

  -- just one start notice came before
  pub an_end_has_a_start : 1 ≤ length c.y0 → start_notices past ≡ 1
  an_end_has_a_start some = omega (arith, one_start some (exchange_kept ex) refl)

-- ---- it is the only one, and the last answer

-- none of the answers before the last is an end
pub only_the_last_ends : {c : Configuration} {run : Run} {a : Answer} {h : List Answer} → Exchange c run (a ∷ h) → tally is_end h ≡ 0
only_the_last_ends ex = none_before ex

-- ---- where the run is: at every place, so at the end

module _ {c : Configuration} {run : Run} {h : List Answer} (some : 1 ≤ length c.y0) (ex : Exchange c run h) where
  -- x, whatever workspaces were handed over
  pub x_is_known : run.at.x ≡ known_x ex
  x_is_known = place_kept some ex

  -- where nothing was modified since, it is what the last notice of the history told
  pub x_is_told : StillAsTold ex → run.at.x ≡ last_told_x h c.x0
  x_is_told still = x_is_known ∙ known_x_is_told ex still

  -- y, where each call was handed the workspace that the one before left
  pub y_is_known : LeftAlone ex → vector (length c.y0) (leaves ex).ws y ≡ known_y ex
  y_is_known alone = values_kept some ex alone

  pub y_is_told : LeftAlone ex → StillAsTold ex → vector (length c.y0) (leaves ex).ws y ≡ last_told_y ex
  y_is_told alone still = y_is_known alone ∙ known_y_is_told ex still

-- ---- so a caller can tell from what was told that a run has arrived

module _ {c : Configuration} {run : Run} {h : Float} {past : List Answer} (some : 1 ≤ length c.y0) (ex : Exchange c run (End Success h ∷ past)) where
  arrived : Means ex h Success → Arrived (direction c) c.xend run.at.x
  arrived (inl none) = absurd (omega arith)
  arrived (inr there) = there

  -- the x that is known
  pub success_has_arrived : Arrived (direction c) c.xend (known_x ex)
  success_has_arrived = rw (x_is_known some ex) at (arrived (an_end_means ex))

  -- where nothing was modified since, the x that the last notice told
  pub success_was_told : StillAsTold ex → Arrived (direction c) c.xend (last_told_x past c.x0)
  success_was_told still = rw (x_is_told some ex still) at (arrived (an_end_means ex))

-- ---- and a reply that interrupts, where it is not refused, ends the run where it is, whatever state is handed over

abbrev interrupting : List Float → List Float → List Float → Call
interrupting values ws q = record { reply = Interrupt; values = values; ws = ws; q = q }

pub an_interruption_ends :
    (run : Run) (values ws q : List Float) → is_refused (called run (interrupting values ws q)).answer ≡ false →
    called run (interrupting values ws q) ≡ end UserInterrupt run.at
unfolding go_within
an_interruption_ends run values ws q =
    going_on_cases (λ (g : After Turn). is_refused g.is.answer ≡ false → g.is ≡ end UserInterrupt run.at) run (interrupting values ws q)
    (λ why r. absurd (true≢false r))
    (λ e _. let good = handed run.awaited run.at Interrupt values ws q e in
    ap (λ (g : After Turn). g.is) (interrupted run.awaited run.at values _ q good.answered.suits))
