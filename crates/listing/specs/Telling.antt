-- A run as the job program has it: the row of answers that it prints, with no bound on how many, and the exchange with the solver that
-- the row is. The words in which promises/Whole.antt and promises/PagesJoin.antt speak.
use Rattle.std.specs.Prelude.{◌≡◌, true, false, List, ◌∷◌, ◌++◌, ℕ, Float}
use Rattle.lines.specs.Types.{Status}
use Rattle.lines.specs.Lines.{end_line}
use Rattle.rules.specs.Answers.{is_question_or_notice}
use Rattle.rules.specs.State.{After}
use Rattle.rules.specs.Calls.{Configuration, beginning, going_on}
use Rattle.rules.specs.History.{Exchange, begins, goes_on, is_refused_call}
use Rattle.rules.specs.Known.{StillAsTold, leaves, LeftAlone}
use Rattle.listing.specs.Types.{Answer, End, Run, Turn}
use Rattle.listing.specs.Replies.{replying, replied}
use Rattle.listing.specs.Printed.{line_of, blank_work, blank_question}

-- ---- the row

-- the last answer prints its line; after any other come the lines that follow the reply to it
pub data Tells (a : List Float) : After Turn → List ℕ → Type 0 where
  last : {g : After Turn} → is_question_or_notice g.is.answer ≡ false → Tells a g (line_of g)
  more : {g : After Turn} {t : List ℕ} → is_question_or_notice g.is.answer ≡ true → Tells a (replied a g) t → Tells a g (line_of g ++ t)

-- ---- the exchange that it is

-- the lines of an exchange's answers, in their order. A refused call has none
abbrev pub lines_of : {c : Configuration} {run : Run} {h : List Answer} → Exchange c run h → List ℕ
lines_of {c} (begins ws q e) = line_of (beginning c ws q)
lines_of (goes_on {run = run} x call e) = lines_of x ++ line_of (going_on run call)
lines_of (is_refused_call x call e) = lines_of x

-- it begins in zeros, every call of it is our reply, and none is refused
abbrev pub Ours : {c : Configuration} {run : Run} {h : List Answer} → List Float → Exchange c run h → Type 0
Ours a (begins ws q e) = (ws ≡ blank_work) × (q ≡ blank_question)
Ours a (goes_on x call e) = Ours a x × (call ≡ replying a (leaves x))
Ours a (is_refused_call x call e) = ⊥

-- t is what a run prints from g on, where it printed `before` up to there; and its exchange, from the beginning to the end
pub record Ran (c : Configuration) (a : List Float) (g : After Turn) (before t : List ℕ) : Type 0 where
  pub tells : Tells a g t
  pub run : Run
  pub status : Status
  pub h : Float
  pub past : List Answer
  pub exchange : Exchange c run (End status h ∷ past)
  pub ours : Ours a exchange
  pub still : StillAsTold exchange
  pub alone : LeftAlone exchange
  pub lines : before ++ t ≡ lines_of exchange
  pub front : List ℕ
  pub whole : t ≡ front ++ end_line status h run.at.steps run.at.evals
