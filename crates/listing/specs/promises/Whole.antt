-- The whole output of the job program, for every file: it is one refusal, or the lines of a run that ends, the end's line last.
--
-- no_job      The file is no job: the line of the reader's refusal.
-- not_begun   The solver refuses the job's configuration: the line of that refusal.
-- ran         The lines of an exchange with the solver, one for each notice and one for the end, which is its last answer. Each of its
--             calls replies with the job's own A y or A, or Continue to a notice, and hands back both slices as they were left; none is
--             refused. So what is promised of every exchange holds of it, such as what its end means.
--
-- It holds since every reply of the job program is in kind, so that it is taken, and no exchange has more questions and notices than
-- the definition allows for (`TellingLaws`).
use Rattle.std.specs.Prelude.{◌≡◌, refl, Bool, true, false, List, [], ◌∷◌, ◌⊎◌, ℕ, suc, ◌*◌, ◌≤◌, length, take, Float}
use Rattle.std.proofs.Common.{ap, inl, inr, arith, length-take-le}
use Rattle.std.proofs.lemmas.Bool.{false≢true}
use Rattle.std.proofs.lemmas.List.{length-replicate}
use Rattle.loops.specs.Arithmetic.{+0}
use Rattle.loops.specs.Refusal.{Outcome, gives, refuses}
use Rattle.matrix.specs.Size.{max_n}
use Rattle.lines.specs.Types.{Status, Success, UserInterrupt, NeedLargerNMax, StepSizeTooSmall}
use Rattle.lines.specs.Lines.{status_of, refusal_line}
use Rattle.rules.specs.declared.types.Refusal.{Refusal}
use Rattle.rules.specs.Refusals.{number_of}
use Rattle.rules.specs.Answers.{is_refused}
use Rattle.rules.specs.State.{After, after}
use Rattle.rules.specs.Calls.{Configuration, direction, beginning}
use Rattle.rules.specs.History.{Exchange}
use Rattle.rules.specs.Known.{Arrived, StillAsTold, last_told_x}
use Rattle.rules.proofs.promises.EndMeans.{success_was_told}
use Rattle.rules.specs.Bounds.{most}
use Rattle.job.specs.Reading.{ReadOutcome, configuration_of}
use Rattle.job.proofs.Serving.{read_serves}
use Rattle.listing.specs.Types.{Answer, Derivative, Jacobian, Start, Step, End, Refused, Run, Turn, Job}
use Rattle.listing.specs.Printed.{lines_from, blank_work, blank_question, run_lines, reading, lines_for, printed}
use Rattle.listing.specs.Telling.{Tells, last, Ran}
use Rattle.listing.specs.laws.LengthLaws.{Sized, read_sized}
use Rattle.listing.specs.laws.TellingLaws.{only_line, begun_runs}

-- ---- the statement

-- the configuration of the job j that was read, and its beginning
abbrev pub configured : ReadOutcome → Job → Configuration
configured r j = configuration_of j (take j.n r.1)

abbrev pub beginning_of : ReadOutcome → Job → After Turn
beginning_of r j = beginning (configured r j) blank_work blank_question

-- t is the whole output for what was read
pub data Whole (r : ReadOutcome) (t : List ℕ) : Type 0 where
  no_job : (number : ℕ) → r.0 ≡ refuses number → t ≡ refusal_line number → Whole r t
  not_begun : (j : Job) (why : Refusal) → r.0 ≡ gives j → (beginning_of r j).is.answer ≡ Refused why → t ≡ refusal_line (number_of why) → Whole r t
  ran : (j : Job) → r.0 ≡ gives j → Ran (configured r j) r.2 (beginning_of r j) [] t → Whole r t

-- ---- a beginning that is refused

-- the answer is a refusal, and its line is all
record Declined (a : List Float) (g : After Turn) (t : List ℕ) : Type 0 where
  why : Refusal
  says : g.is.answer ≡ Refused why
  line : t ≡ refusal_line (number_of why)
  tells : Tells a g t

declined :
    (a : List Float) (k : ℕ) (answer : Answer) (run : Run) (ws q : List Float) → is_refused answer ≡ true →
    let g : After Turn = after (record { answer = answer; run = run }) ws q in Declined a g (lines_from (suc k) a g)
declined a k (Derivative x) run ws q e = absurd (false≢true e)
declined a k (Jacobian x) run ws q e = absurd (false≢true e)
declined a k (Start x) run ws q e = absurd (false≢true e)
declined a k (Step old new start h) run ws q e = absurd (false≢true e)
declined a k (End status h) run ws q e = absurd (false≢true e)
declined a k (Refused why) run ws q e =
    let g : After Turn = after (record { answer = Refused why; run = run }) ws q in
    let only = only_line a k g refl in
    record { why = why; says = refl; line = only; tells = rw only (last refl) }

-- ---- the proof

-- the beginning is refused, or the run begins and ends
abbrev Goes : Configuration → List Float → Type 0
Goes c a = let g = beginning c blank_work blank_question in Declined a g (run_lines c a) ⊎ Ran c a g [] (run_lines c a)

goes : (c : Configuration) (a : List Float) → length a ≡ max_n * max_n → Goes c a
goes c a wide = by_test _ refl
  where
    by_test : (b : Bool) → is_refused (beginning c blank_work blank_question).is.answer ≡ b → Goes c a
    by_test true e = let g = beginning c blank_work blank_question in inl (declined a (most c) g.is.answer g.is.run g.ws g.q e)
    by_test false e = inr (begun_runs a wide e)

-- so for a job that was read
module _ (j : Job) (y0 a : List Float) where
  job_whole : Goes (configuration_of j (take j.n y0)) a → Whole (gives j, y0, a) (lines_for (gives j, y0, a))
  job_whole (inl d) = not_begun j d.why refl d.says d.line
  job_whole (inr r) = ran j refl r

  job_tells : Goes (configuration_of j (take j.n y0)) a → Tells a (beginning_of (gives j, y0, a) j) (lines_for (gives j, y0, a))
  job_tells (inl d) = d.tells
  job_tells (inr r) = r.tells

  -- the lines of a job that was read are the row of answers from its beginning on
  pub read_tells : length a ≡ max_n * max_n → Tells a (beginning_of (gives j, y0, a) j) (lines_for (gives j, y0, a))
  read_tells wide = job_tells (goes _ a wide)

-- and for anything that is read
read_whole : (o : Outcome Job) (y0 a : List Float) → length a ≡ max_n * max_n → Whole (o, y0, a) (lines_for (o, y0, a))
read_whole (gives j) y0 a wide = job_whole j y0 a (goes _ a wide)
read_whole (refuses number) y0 a wide = no_job number refl refl

-- the arrays for y0 and A stay as long as they are for the greatest job
pub reading_sized : (s : List ℕ) → Sized (reading s)
reading_sized s = read_sized s _ _ (length-replicate max_n +0) (length-replicate (max_n * max_n) +0)

-- whatever bytes a file has
pub printed_is_whole : (s : List ℕ) → Whole (reading s) (printed s)
unfolding printed
printed_is_whole s = read_whole (reading s).0 (reading s).1 (reading s).2 (reading_sized s).1

-- ---- what the end's line says

-- no status but Success is 0
arrived :
    {c : Configuration} {run : Run} {h : Float} {past : List Answer} (status : Status) → 1 ≤ length c.y0 →
    (x : Exchange c run (End status h ∷ past)) → StillAsTold x → status_of status ≡ 0 → Arrived (direction c) c.xend (last_told_x past c.x0)
arrived Success some x still e = success_was_told some x still
arrived UserInterrupt some x still e = absurd (omega arith)
arrived NeedLargerNMax some x still e = absurd (omega arith)
arrived StepSizeTooSmall some x still e = absurd (omega arith)

-- a job that was read has as many components as it says
pub with_components :
    (s : List ℕ) (j : Job) → (reading s).0 ≡ gives j → length (configured (reading s) j).y0 ≡ j.n
with_components s j e =
    let few : j.n ≤ max_n = read_serves s _ _ j e in
    length-take-le j.n (reading s).1 (omega (arith, (reading_sized s).0))

-- where the last line says `E 0`, and there are components, the x of the last notice lies at xend or beyond it in the run's direction
pub success_is_the_end :
    (s : List ℕ) (j : Job) → (reading s).0 ≡ gives j → 1 ≤ j.n → let c = configured (reading s) j in
    (r : Ran c (reading s).2 (beginning_of (reading s) j) [] (printed s)) → r.status ≡ Success →
    Arrived (direction c) j.xend (last_told_x r.past j.x0)
success_is_the_end s j e some r success =
    arrived r.status (omega (arith, with_components s j e)) r.exchange r.still (ap status_of success)
