-- The whole output of the job program, from the bytes of the file to the bytes that it prints: a file that is no job prints its
-- refusal, and so does a job that the solver refuses to begin; any other prints the lines of its run, up to the end's.
use Rattle.std.specs.Prelude.{List, [], ◌++◌, ℕ, zero, suc, ◌*◌, take, replicate, Float}
use Rattle.loops.specs.Arithmetic.{+0}
use Rattle.loops.specs.Choice.{when◌then◌else◌}
use Rattle.loops.specs.Refusal.{gives, refuses}
use Rattle.matrix.specs.Size.{max_n}
use Rattle.rules.specs.Refusals.{number_of}
use Rattle.rules.specs.Answers.{is_question_or_notice}
use Rattle.rules.specs.Places.{need}
use Rattle.rules.specs.State.{After}
use Rattle.rules.specs.Calls.{Configuration, beginning, size}
use Rattle.rules.specs.Bounds.{most}
use Rattle.lines.specs.Lines.{start_line, step_line, end_line, refusal_line}
use Rattle.job.specs.Reading.{ReadOutcome, read_of, configuration_of}
use Rattle.listing.specs.Types.{Answer, Derivative, Jacobian, Start, Step, End, Refused, Evals, Steps, Turn}
use Rattle.listing.specs.Replies.{replied}

-- ---- a run's lines

-- the line of an answer, with the state told beside it and the counters: a question has none
abbrev pub answer_line : Answer → List Float → Steps → Evals → List ℕ
answer_line (Derivative x) y steps evals = []
answer_line (Jacobian x) y steps evals = []
answer_line (Start x) y steps evals = start_line x y
answer_line (Step old new start h) y steps evals = step_line new y
answer_line (End status h) y steps evals = end_line status h steps evals
answer_line (Refused why) y steps evals = refusal_line (number_of why)

abbrev pub line_of : After Turn → List ℕ
line_of g = let p = g.is.run.at in answer_line g.is.answer (take (size g) g.q) p.steps p.evals

-- the lines from an answer on, of at most k answers: its own, then those that follow the reply to it
unfoldable pub lines_from : ℕ → List Float → After Turn → List ℕ
lines_from zero a g = []
lines_from (suc k) a g = line_of g ++ (when is_question_or_notice g.is.answer then lines_from k a (replied a g) else [])

-- ---- a file's

-- the workspace and the question slice before the beginning: zeros, enough for any job
abbrev pub blank_work : List Float
blank_work = replicate (need max_n) +0

abbrev pub blank_question : List Float
blank_question = replicate (8 * max_n) +0

-- no run has more than `most` questions and notices, and one answer ends it
abbrev pub run_lines : Configuration → List Float → List ℕ
run_lines c a = lines_from (suc (most c)) a (beginning c blank_work blank_question)

-- what is read of a file: y0 and A stand in the first places of arrays that held zeros
abbrev pub reading : List ℕ → ReadOutcome
reading s = read_of s (replicate max_n +0) (replicate (max_n * max_n) +0)

-- the lines for what was read
abbrev pub lines_for : ReadOutcome → List ℕ
lines_for (gives job, y0, a) = run_lines (configuration_of job (take job.n y0)) a
lines_for (refuses number, y0, a) = refusal_line number

unfoldable pub printed : List ℕ → List ℕ
printed s = lines_for (reading s)
