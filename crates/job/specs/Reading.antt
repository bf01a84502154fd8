-- What a reader takes for a job file, and what it then reads: by the bits of its numbers, and by their values. It refuses by 17 and 1, in
-- the order of docs/JOB-FORMAT.md; 5 to 8 are the beginning's.
use Rattle.std.specs.Prelude.{Bool, ◌&&◌, ◌||◌, not, List, [], ◌++◌, ℕ, ◌+◌, ◌*◌, ltb, eqb, length, map, drop, Float, Option, None, Some, Result, Ok, Err}
use Rattle.loops.specs.Choice.{when◌then◌else◌}
use Rattle.loops.specs.Refusal.{Outcome, gives, refuses}
use Rattle.rules.specs.Calls.{Configuration}
use Rattle.job.specs.declared.packed.Head.{Head}
use Rattle.job.specs.declared.form.Form.{Form}
use Rattle.job.specs.declared.form.ReadError.{ReadError}
use Rattle.job.specs.declared.form.ReadError.TheVariants.{TooManyComponents, NoJob}
use Rattle.job.specs.declared.reader.Job.{Job}
use Rattle.job.specs.Types.{Scalar, BDF, defaults, max_n}
use Rattle.job.specs.Packed.{head_length, head_bits, head_of, word_of, words_of, value_of, doubles_of, length_for}

-- ---- what bytes say

-- the length is that of n, no padding bit is set, and a first_step that is not used has only zero bits: -0 is not taken for 0
unfoldable pub accepted_of : List ℕ → Head → Bool
accepted_of s h = eqb (length s) (length_for h.n) && (eqb h.padding 0 && (not h.automatic || eqb (word_of s 2) 0))

unfoldable pub form_of : List ℕ → Head → Form
form_of s h =
    record {
      n = h.n;
      max_steps = h.max_steps;
      newton_maxiter = h.newton_maxiter;
      automatic = h.automatic;
      x0 = word_of s 0;
      xend = word_of s 1;
      first_step = word_of s 2;
      rtol = word_of s 3;
      atol = word_of s 4;
    }

-- past the head's length
unfoldable pub head_read : List ℕ → Head → Outcome Form
head_read s h =
    when ltb max_n h.n then refuses 1
    else when accepted_of s h then gives (form_of s h)
    else refuses 17

unfoldable pub form_read : List ℕ → Outcome Form
form_read s = when ltb (length s) head_length then refuses 17 else head_read s (head_of (head_bits s))

-- ---- read by bits

-- the number of each refusal
abbrev pub read_number : ReadError → ℕ
read_number TooManyComponents = 1
read_number NoJob = 17

-- the refusal by its number: 1, and else 17
unfoldable pub read_refusal : ℕ → ReadError
read_refusal number = when eqb number 1 then TooManyComponents else NoJob

-- what each answer says: a form, or the number of the refusal
abbrev pub form_reading_of : Result Form ReadError → Outcome Form
form_reading_of (Ok f) = gives f
form_reading_of (Err why) = refuses (read_number why)

-- what a call comes to: its answer, then what the arrays for y0 and A hold
abbrev pub FormOutcome : Type 0
FormOutcome = Outcome Form × List ℕ × List ℕ

-- y0 and A go to the first places of their arrays
abbrev pub form_placed : List ℕ → Outcome Form → List ℕ → List ℕ → FormOutcome
form_placed s (gives f) y0 a =
    let n = f.n in
    (gives f, words_of s 5 n ++ drop n y0, words_of s (5 + n) (n * n) ++ drop (n * n) a)
form_placed s (refuses number) y0 a = (refuses number, y0, a)

unfoldable pub read_form_of : List ℕ → List ℕ → List ℕ → FormOutcome
read_form_of s y0 a = form_placed s (form_read s) y0 a

-- the same where y0 and A hold what each word is read as
abbrev pub placed_as : {A : Type 0} → (ℕ → A) → List ℕ → Outcome Form → List A → List A → Outcome Form × List A × List A
placed_as of_word s (gives f) y0 a =
    let n = f.n in
    (gives f, map of_word (words_of s 5 n) ++ drop n y0, map of_word (words_of s (5 + n) (n * n)) ++ drop (n * n) a)
placed_as of_word s (refuses number) y0 a = (refuses number, y0, a)

-- ---- read by values

-- what each answer says: a job, or the number of the refusal
abbrev pub reading_of : Result Job ReadError → Outcome Job
reading_of (Ok job) = gives job
reading_of (Err why) = refuses (read_number why)

abbrev pub ReadOutcome : Type 0
ReadOutcome = Outcome Job × List Float × List Float

unfoldable pub first_step_of : Form → Option Float
first_step_of f = when f.automatic then None else Some (value_of f.first_step)

-- the job that a form means
unfoldable pub job_of : Form → Job
job_of f =
    record {
      n = f.n;
      max_steps = f.max_steps;
      newton_maxiter = f.newton_maxiter;
      x0 = value_of f.x0;
      xend = value_of f.xend;
      first_step = first_step_of f;
      rtol = value_of f.rtol;
      atol = value_of f.atol;
    }

abbrev pub placed : List ℕ → Outcome Form → List Float → List Float → ReadOutcome
placed s (gives f) y0 a =
    let n = f.n in
    (gives (job_of f), doubles_of s 5 n ++ drop n y0, doubles_of s (5 + n) (n * n) ++ drop (n * n) a)
placed s (refuses number) y0 a = (refuses number, y0, a)

unfoldable pub read_of : List ℕ → List Float → List Float → ReadOutcome
read_of s y0 a = placed s (form_read s) y0 a

-- ---- a job's run

-- the solver's settings for a job: what it does not name is as for a solver that is told nothing, and that is unset and unguarded
abbrev pub settings_of : Job → BDF
settings_of job =
    record {
      max_steps = job.max_steps;
      max_step = defaults.max_step;
      min_step = defaults.min_step;
      newton_maxiter = job.newton_maxiter;
      newton_tol = defaults.newton_tol;
      first_step = job.first_step;
      guarded = defaults.guarded;
    }

-- the solver's configuration for a job: one tolerance of each kind for every component
abbrev pub configuration_of : Job → List Float → Configuration
configuration_of job y0 =
    record {
      settings = settings_of job;
      x0 = job.x0;
      y0 = y0;
      xend = job.xend;
      rtol = Scalar job.rtol;
      rtols = [];
      atol = Scalar job.atol;
      atols = [];
    }
