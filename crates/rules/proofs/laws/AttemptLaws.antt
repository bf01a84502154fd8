-- What an attempt comes to, whatever the floats are: read off the definition test by test.
use Rattle.std.specs.Prelude.{◌≡◌, List, Bool, ◌≤◌, ◌<◌, Float, Option, Some, None}
use Rattle.std.proofs.Math.Path.{refl}
use Rattle.std.proofs.Common.{inl, inr, le_trans, arith, leb-true, leb-false, le-leb}
use Rattle.loops.specs.Choice.{when◌then◌else◌}
use Rattle.loops.specs.laws.ChoiceLaws.{either, when_true}
use Rattle.rules.specs.Types.{Progress, Pace, Success, NeedLargerNMax, StepSizeTooSmall, Aim}
use Rattle.rules.specs.State.{with_pace, changed, After, after, Left, left}
use Rattle.rules.specs.laws.Moved.{Moved}
use Rattle.rules.proofs.laws.MovedLaws.{moved_on, factoring_spared, stays, pace_moves, aim_moves, newton_moves, total_moves, rejected_moves, factored_moves, singular_moves}
use Rattle.rules.specs.Attempt.{to_hmax, to_hmin, fitted, aimed, cut_at_end, halved, newton_start, refactored, attempt_at, unless_stuck, headed, fitted_attempt, attempt, Tried, says, end}
use Rattle.rules.specs.laws.Said.{Cause, ends, asks, Tries}

-- ---- the step's size: a step that is changed is the first of its size

changed_or_same :
    (b : Bool) (h : Float) (g : Pace) (v ws : List Float) → (when b then left (changed h) v else left g ws).is.equal_steps ≤ g.equal_steps
changed_or_same b h g v ws = either (λ (a : Left Pace). a.is.equal_steps ≤ g.equal_steps) b (λ _. omega arith) (λ _. omega arith)

fitted_equals : (p : Progress) (ws : List Float) → (fitted p ws).is.equal_steps ≤ p.pace.equal_steps
unfolding fitted to_hmax to_hmin
fitted_equals p ws = le_trans (changed_or_same _ _ _ _ _) (changed_or_same _ _ _ _ _)

-- what an aim tells
abbrev AimTells : Progress → Option (Pace × Aim) → Type 0
AimTells p None = Cause Success p
AimTells p (Some (g, a)) = g.equal_steps ≤ p.pace.equal_steps

aimed_tells : (p : Progress) (ws : List Float) → AimTells p (aimed p ws).is
unfolding aimed cut_at_end
aimed_tells p ws =
    either (λ (a : Left (Option (Pace × Aim))). AimTells p a.is) _
    (λ _. either (λ (a : Left (Option (Pace × Aim))). AimTells p a.is) _ (λ e. e) (λ _. omega arith))
    (λ _. omega arith)

-- ---- the attempt's parts, last first, from a state r that p moved to

module _ (p : Progress) (had : p.steps.total < p.limits.steps) where
  newton_start_asks : {r : Progress} (ws q : List Float) → Moved p r 0 0 1 1 0 0 p.order → Tries p (newton_start r ws q).is
  unfolding newton_start
  newton_start_asks {r} ws q m = (asks {k = 0} refl refl (omega arith) (moved_on m (newton_moves r _)))

  refactored_tries : {r : Progress} (ws q : List Float) → Moved p r 0 0 0 1 0 0 p.order → Tries p (refactored r ws q).is
  unfolding refactored halved
  refactored_tries {r} ws q m =
      either (λ (a : After Tried). Tries p a.is) _
      (λ _. newton_start_asks _ _ (moved_on m (factored_moves r ws)))
      (λ _. let moved = moved_on (moved_on (moved_on m (singular_moves r ws)) (pace_moves _ (omega arith))) (rejected_moves _) in
      record { had = had; moved = moved })

  attempt_at_tries : {r : Progress} (ws q : List Float) → Moved p r 0 0 0 1 0 0 p.order → Tries p (attempt_at r ws q).is
  unfolding attempt_at
  attempt_at_tries {r} ws q m =
      either (λ (a : After Tried). Tries p a.is) _ (λ _. refactored_tries _ _ m) (λ _. newton_start_asks _ _ (factoring_spared m))

  unless_stuck_tries : {r : Progress} (ws q : List Float) → Moved p r 0 0 0 0 0 0 p.order → Tries p (unless_stuck r ws q).is
  unfolding unless_stuck
  unless_stuck_tries {r} ws q m =
      either (λ (a : After Tried). Tries p a.is) _
      (λ e. (ends {k = 0} StepSizeTooSmall refl (inr e) (omega arith) m))
      (λ _. attempt_at_tries _ _ (moved_on m (total_moves r)))

  headed_tries : {r : Progress} (a : Option (Pace × Aim)) (ws q : List Float) → Moved p r 0 0 0 0 0 0 p.order → AimTells r a → Tries p (headed r a ws q).is
  headed_tries None ws q m e = (ends {k = 0} Success refl e (omega arith) m)
  headed_tries {r} (Some (g, a)) ws q m e = unless_stuck_tries ws q (moved_on (moved_on m (pace_moves r e)) (aim_moves (with_pace r g) a))

  fitted_attempt_tries : (ws q : List Float) → Tries p (fitted_attempt p ws q).is
  unfolding fitted_attempt
  fitted_attempt_tries ws q =
      let f = fitted p ws in
      let r = with_pace p f.is in
      let a = aimed r f.ws in
      headed_tries {r = r} a.is a.ws q (pace_moves p {g = f.is} (fitted_equals p ws)) (aimed_tells r f.ws)

-- ---- the attempt

-- the limit of attempts is tested before the smallest step
pub limit_first : (p : Progress) (ws q : List Float) → p.limits.steps ≤ p.steps.total → attempt p ws q ≡ after (says (end NeedLargerNMax p)) ws q
unfolding attempt
limit_first p ws q h = when_true _ _ (le-leb p.limits.steps p.steps.total h)

pub attempt_tries : (p : Progress) (ws q : List Float) → p.steps.total ≤ p.limits.steps → Tries p (attempt p ws q).is
unfolding attempt
attempt_tries p ws q h =
    either (λ (a : After Tried). Tries p a.is) _
    (λ e. (ends {k = 0} NeedLargerNMax refl (omega (arith, leb-true)) h (stays p)))
    (λ e. either (λ (a : After Tried). Tries p a.is) _
    (λ small. (ends {k = 0} StepSizeTooSmall refl (inl small) h (stays p)))
    (λ _. fitted_attempt_tries p (omega (arith, leb-false)) ws q))
