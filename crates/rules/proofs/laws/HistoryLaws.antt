-- What holds of a history whatever it is: the kinds of its answers, and when the automatic start's derivative was asked.
use Rattle.std.specs.Prelude.{◌≡◌, refl, List, [], ◌∷◌, true, false, ℕ, ◌+◌, ◌-◌, ◌≤◌, ltb, length, is_none}
use Rattle.std.proofs.Common.{true≢false, arith}
use borrow.Author.Tests.{lt-ltb, le-ltb}
use Rattle.loops.specs.Choice.{when◌then◌else◌}
use Rattle.loops.specs.laws.ChoiceLaws.{either, when_true, when_false, and_fails, and_passes}
use Rattle.rules.specs.Types.{Answer, Run, Derivative, Jacobian, Start, Step, End, Refused}
use Rattle.rules.specs.Answers.{is_end, is_refused}
use Rattle.rules.specs.Calls.{Configuration}
use Rattle.rules.specs.History.{Exchange, begins, goes_on, is_refused_call, derivatives, jacobians, start_notices, step_notices, questions_and_notices, automatic_start}

-- ---- the kinds

-- an answer that is neither the end nor a refusal is a question or a notice more
pub is_asked : (a : Answer) (h : List Answer) → is_end a ≡ false → is_refused a ≡ false → questions_and_notices (a ∷ h) ≡ 1 + questions_and_notices h
is_asked (Derivative x) h e f = refl
is_asked (Jacobian x) h e f = refl
is_asked (Start x) h e f = refl
is_asked (Step old new start v) h e f = refl
is_asked (End status v) h e f = absurd (true≢false e)
is_asked (Refused why) h e f = absurd (true≢false f)

-- and each is of one of the four kinds
pub all_told : (h : List Answer) → questions_and_notices h ≡ derivatives h + jacobians h + start_notices h + step_notices h
all_told [] = refl
all_told (Derivative x ∷ h) = omega (arith, all_told h)
all_told (Jacobian x ∷ h) = omega (arith, all_told h)
all_told (Start x ∷ h) = omega (arith, all_told h)
all_told (Step old new start v ∷ h) = omega (arith, all_told h)
all_told (End status x ∷ h) = omega (arith, all_told h)
all_told (Refused why ∷ h) = omega (arith, all_told h)

-- a refused call adds no answer: so the last one is no refusal
abbrev pub LastTaken : List Answer → Type 0
LastTaken [] = Unit
LastTaken (a ∷ h) = is_refused a ≡ false

pub last_taken : {c : Configuration} {run : Run} {h : List Answer} → Exchange c run h → LastTaken h
last_taken (begins ws q e) = e
last_taken (goes_on x call e) = e
last_taken (is_refused_call x call e) = last_taken x

-- ---- the automatic start's derivative: decided by the third answer

module _ (c : Configuration) where
  pub automatic_stays : (a : Answer) (h : List Answer) → 3 - length h ≡ 0 → automatic_start c (a ∷ h) ≡ automatic_start c h
  unfolding automatic_start
  automatic_stays a h e = rw (lt-ltb 2 (length h) (omega arith), lt-ltb 2 (length (a ∷ h)) (omega arith))

  pub automatic_early : (h : List Answer) → length h ≤ 2 → automatic_start c h ≡ 0
  unfolding automatic_start
  automatic_early h few =
      when_false 1 0 (and_fails (is_none c.settings.first_step) (λ _. and_fails (ltb 0 (length c.y0)) (λ _. le-ltb 2 (length h) few)))

  pub automatic_given : (h : List Answer) → is_none c.settings.first_step ≡ false → automatic_start c h ≡ 0
  unfolding automatic_start when◌then◌else◌
  automatic_given h given = rw given

  pub automatic_asked : (h : List Answer) → is_none c.settings.first_step ≡ true → 1 ≤ length c.y0 → 3 ≤ length h → automatic_start c h ≡ 1
  unfolding automatic_start
  automatic_asked h unset some far =
      when_true 1 0 (and_passes unset (and_passes (lt-ltb 0 (length c.y0) some) (lt-ltb 2 (length h) (omega arith))))

  pub automatic_once : (h : List Answer) → automatic_start c h ≤ 1
  unfolding automatic_start
  automatic_once h = either (λ (k : ℕ). k ≤ 1) _ (λ _. omega arith) (λ _. omega arith)
