-- The solver's contracts leave no choice: two outcomes that meet one of them, from the same call, are the same answer, the same
-- state, and the same numbers left in every place of the lent slices. Each `Meets..` is the equation that the code's contract
-- states, of an answer r and of the slices' later contents.
use Rattle.std.specs.Prelude.{◌≡◌, List, Bool, Float}
use Rattle.std.proofs.Common.{sym, ap, ◌∙◌}
use Rattle.rules.specs.Types.{Tolerance, Status, Evals, Steps, Run, Reply, Answer, Turn}
use Rattle.rules.specs.State.{After, after, turn}
use Rattle.rules.specs.Settings.{defaults}
use Rattle.rules.specs.Statuses.{is_success_of, reached_of}
use Rattle.rules.specs.Counters.{no_evals, no_steps}
use Rattle.rules.specs.Begin.{begin_of}
use Rattle.rules.specs.GoOn.{go_on_of}
use Rattle.rules.specs.declared.settings.BDF.{BDF}

-- one outcome: its three parts are one
same_outcome : {r r' : Turn} {ws ws' q q' : List Float} → after r ws q ≡ after r' ws' q' → (r ≡ r') × (ws ≡ ws') × (q ≡ q')
same_outcome e = (ap (λ (g : After Turn). g.is) e, ap (λ (g : After Turn). g.ws) e, ap (λ (g : After Turn). g.q) e)

-- ---- BDF::new

abbrev pub MeetsNew : BDF → Type 0
MeetsNew r = r ≡ defaults

pub new_unique : {r s : BDF} → MeetsNew r → MeetsNew s → r ≡ s
new_unique m o = m ∙ sym o

-- ---- Evals::new, Steps::new

abbrev pub MeetsNewEvals : Evals → Type 0
MeetsNewEvals r = r ≡ no_evals

pub new_evals_unique : {r s : Evals} → MeetsNewEvals r → MeetsNewEvals s → r ≡ s
new_evals_unique m o = m ∙ sym o

abbrev pub MeetsNewSteps : Steps → Type 0
MeetsNewSteps r = r ≡ no_steps

pub new_steps_unique : {r s : Steps} → MeetsNewSteps r → MeetsNewSteps s → r ≡ s
new_steps_unique m o = m ∙ sym o

-- ---- Status::is_success, Status::reached

abbrev pub MeetsIsSuccess : Status → Bool → Type 0
MeetsIsSuccess status r = r ≡ is_success_of status

pub is_success_unique : (status : Status) {r s : Bool} → MeetsIsSuccess status r → MeetsIsSuccess status s → r ≡ s
is_success_unique status m o = m ∙ sym o

abbrev pub MeetsReached : Status → Bool → Type 0
MeetsReached status r = r ≡ reached_of status

pub reached_unique : (status : Status) {r s : Bool} → MeetsReached status r → MeetsReached status s → r ≡ s
reached_unique status m o = m ∙ sym o

-- ---- begin

module _
    (settings : BDF) (x0 : Float) (y0 : List Float) (xend : Float)
    (rtol : Tolerance) (rtols : List Float) (atol : Tolerance) (atols ws₀ q₀ : List Float) where
  abbrev pub MeetsBegin : Turn → List Float → List Float → Type 0
  MeetsBegin r ws q = after r ws q ≡ begin_of settings x0 y0 xend rtol rtols atol atols ws₀ q₀

  pub begin_unique : {r r' : Turn} {ws ws' q q' : List Float} → MeetsBegin r ws q → MeetsBegin r' ws' q' → (r ≡ r') × (ws ≡ ws') × (q ≡ q')
  begin_unique m o = same_outcome (m ∙ sym o)

-- ---- go_on

module _ (run : Run) (reply : Reply) (values ws₀ q₀ : List Float) where
  abbrev pub MeetsGoOn : Turn → List Float → List Float → Type 0
  MeetsGoOn r ws q = after r ws q ≡ go_on_of run reply values ws₀ q₀

  pub go_on_unique : {r r' : Turn} {ws ws' q q' : List Float} → MeetsGoOn r ws q → MeetsGoOn r' ws' q' → (r ≡ r') × (ws ≡ ws') × (q ≡ q')
  go_on_unique m o = same_outcome (m ∙ sym o)

-- ---- resume: the run that was lent is seen beside the answer

module _ (run : Run) (reply : Reply) (values ws₀ q₀ : List Float) where
  abbrev pub MeetsResume : Answer → Run → List Float → List Float → Type 0
  MeetsResume r run' ws q = after (turn r run'.awaited run'.at) ws q ≡ go_on_of run reply values ws₀ q₀

  pub resume_unique :
      {r s : Answer} {run' run'' : Run} {ws ws' q q' : List Float} →
      MeetsResume r run' ws q → MeetsResume s run'' ws' q' → (r ≡ s) × (run' ≡ run'') × (ws ≡ ws') × (q ≡ q')
  resume_unique m o =
      let same = same_outcome (m ∙ sym o) in
      (ap (λ (t : Turn). t.answer) same.0, ap (λ (t : Turn). t.run) same.0, same.1, same.2)
