-- A solver as its callers see it: a beginning and a going on. Ours is the one that the contracts say; an exchange with any solver
-- has a transcript.
use Rattle.std.specs.Prelude.{◌≡◌, refl, List, [], ◌∷◌, take, Float}
use Rattle.std.proofs.Common.{ap}
use Rattle.rules.specs.Types.{Evals, Steps, Answer, Reply, Run, Turn}
use Rattle.rules.specs.State.{After}
use Rattle.rules.specs.Calls.{Configuration, beginning, Call, going_on}

pub record Solver : Type 0 where
  pub begins : Configuration → List Float → List Float → After Turn
  pub goes_on : Run → Call → After Turn

-- the one of the definitions
abbrev pub ours : Solver
ours = record { begins = beginning; goes_on = going_on }

-- a solver that meets both contracts
pub record Meets (o : Solver) : Type 0 where
  pub begins : (c : Configuration) (ws q : List Float) → o.begins c ws q ≡ beginning c ws q
  pub goes_on : (run : Run) (call : Call) → o.goes_on run call ≡ going_on run call

-- ---- an exchange

-- what a caller reads of an outcome: the answer, the state told in the question slice, and the counters: derivatives,
-- Jacobians, factorings, the start's; attempts, accepted, rejected
pub record Line : Type 0 where
  pub answer : Answer
  pub y : List Float
  pub evals : Evals
  pub steps : Steps

abbrev pub line : After Turn → Line
line g = record { answer = g.is.answer; y = take g.is.run.at.n g.q; evals = g.is.run.at.evals; steps = g.is.run.at.steps }

-- a reply and its values
abbrev pub Replied : Type 0
Replied = Reply × List Float

-- the next outcome, from the state and the slices that the last one left
abbrev pub next : Solver → After Turn → Replied → After Turn
next o g r = o.goes_on g.is.run (record { reply = r.0; values = r.1; ws = g.ws; q = g.q })

-- the lines of the replies that follow g
unfoldable pub later : Solver → After Turn → List Replied → List Line
later o g [] = []
later o g (r ∷ replies) = line (next o g r) ∷ later o (next o g r) replies

-- an exchange's lines, the beginning's first
abbrev pub transcript : Solver → Configuration → List Float → List Float → List Replied → List Line
transcript o c ws q replies = line (o.begins c ws q) ∷ later o (o.begins c ws q) replies

-- solvers that meet the contracts have the same transcripts as ours
later_same : {o : Solver} → Meets o → (g : After Turn) (replies : List Replied) → later o g replies ≡ later ours g replies
unfolding later
later_same m g [] = refl
later_same {o} m g (r ∷ replies) =
    rw (m.goes_on g.is.run (record { reply = r.0; values = r.1; ws = g.ws; q = g.q }))
    (ap (λ (t : List Line). line (next ours g r) ∷ t) (later_same m (next ours g r) replies))

pub transcript_same :
    {o : Solver} → Meets o → (c : Configuration) (ws q : List Float) (replies : List Replied) →
    transcript o c ws q replies ≡ transcript ours c ws q replies
transcript_same {o} m c ws q replies =
    rw (m.begins c ws q) (ap (λ (t : List Line). line (beginning c ws q) ∷ t) (later_same m (beginning c ws q) replies))
