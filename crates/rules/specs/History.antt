-- A run's history: what a caller is given from the beginning on, whatever is replied. The theorems over whole runs are about it:
-- `EndMeans`, `Demand3`, `NeverDamaged` and `RunEnds`.
use Rattle.std.specs.Prelude.{◌≡◌, List, [], ◌∷◌, Bool, true, false, ◌&&◌, ℕ, ◌+◌, ltb, length, Float, is_none}
use Rattle.loops.specs.Choice.{when◌then◌else◌}
use Rattle.rules.specs.Types.{Answer, Run, Turn}
use Rattle.rules.specs.Answers.{is_derivative, is_jacobian, is_start, is_step, is_refused, is_question_or_notice}
use Rattle.rules.specs.Calls.{Configuration, beginning, Call, going_on}

-- ---- the exchange

-- what the beginning says, and what a call says to a run
abbrev pub begun : Configuration → List Float → List Float → Turn
begun c ws q = (beginning c ws q).is

abbrev pub called : Run → Call → Turn
called run call = (going_on run call).is

-- The exchanges that a configuration allows, each with the state last returned and the answers so far, the last one first. The
-- configuration is accepted, which is that its beginning is not refused. Then any replies at all, with any values, workspace
-- and question slice at each call, which hands back the state last returned. A refused call does not count: it adds no answer.
pub data Exchange (c : Configuration) : Run → List Answer → Type 0 where
  begins : (ws q : List Float) → is_refused (begun c ws q).answer ≡ false → Exchange c (begun c ws q).run ((begun c ws q).answer ∷ [])
  goes_on :
      {run : Run} {h : List Answer} → Exchange c run h → (call : Call) → is_refused (called run call).answer ≡ false →
      Exchange c (called run call).run ((called run call).answer ∷ h)
  is_refused_call :
      {run : Run} {h : List Answer} → Exchange c run h → (call : Call) → is_refused (called run call).answer ≡ true →
      Exchange c (called run call).run h

-- ---- tallies of a history: how many of its answers are of a kind

abbrev one_if : Bool → ℕ
one_if true = 1
one_if false = 0

abbrev pub tally : (Answer → Bool) → List Answer → ℕ
tally kind [] = 0
tally kind (a ∷ h) = one_if (kind a) + tally kind h

abbrev pub derivatives : List Answer → ℕ
derivatives h = tally is_derivative h

abbrev pub jacobians : List Answer → ℕ
jacobians h = tally is_jacobian h

abbrev pub start_notices : List Answer → ℕ
start_notices h = tally is_start h

abbrev pub step_notices : List Answer → ℕ
step_notices h = tally is_step h

abbrev pub questions_and_notices : List Answer → ℕ
questions_and_notices h = tally is_question_or_notice h

-- ---- the derivative of an automatic start

-- 1 where it was asked, else 0: `first_step` is unset, n is above 0, and the history has come past its first two questions, the first
-- derivative and the first Jacobian
unfoldable pub automatic_start : Configuration → List Answer → ℕ
automatic_start c h = when is_none c.settings.first_step && (ltb 0 (length c.y0) && ltb 2 (length h)) then 1 else 0
