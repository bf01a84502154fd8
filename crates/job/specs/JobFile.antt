-- A file that is a job: a reader takes it for one, and the solver does not refuse to begin with it. So docs/JOB-FORMAT.md has it, where past
-- 17 and 1 come the beginning's own refusals, and this is what 02 §7 calls accepted as a job. In the words of the contracts.
use Rattle.std.specs.Prelude.{◌≡◌, List, ◌++◌, map, ℕ, ◌*◌, ◌^◌, ◌≤◌, length, drop, Float}
use Rattle.std.proofs.Math.Option.{none}
use Rattle.loops.specs.Refusal.{gives}
use Rattle.text.specs.Words.{Below}
use Rattle.rules.specs.Places.{need}
use Rattle.rules.specs.Refusals.{refusal_of}
use Rattle.rules.specs.Calls.{beginning}
use Rattle.job.specs.declared.form.Form.{Form}
use Rattle.job.specs.declared.reader.Job.{Job}
use Rattle.job.specs.Packed.{value_of}
use Rattle.job.specs.Reading.{read_form_of, job_of, configuration_of}
use Rattle.job.specs.Writing.{words_in}

-- read into any arrays, s gives the form f and leaves y0 and A in their first places
abbrev pub Reads : List ℕ → Form → List ℕ → List ℕ → Type 0
Reads s f y0 a = (y b : List ℕ) → read_form_of s y b ≡ (gives f, y0 ++ drop f.n y, a ++ drop (f.n * f.n) b)

-- the solver does not refuse to begin the job, whatever workspace and question slice it is lent that are long enough
abbrev pub Begins : Job → List Float → Type 0
Begins job y0 =
    (ws q : List Float) → need job.n ≤ length ws → 8 * job.n ≤ length q → refusal_of (beginning (configuration_of job y0) ws q).is.answer ≡ none

-- the bytes s are a job: the form f with y0 and A
pub record JobFile (s : List ℕ) (f : Form) (y0 a : List ℕ) : Type 0 where
  pub bytes : Below 256 s
  pub reads : Reads s f y0 a
  pub begins : Begins (job_of f) (map value_of y0)

-- a form with y0 and A that a caller can hand over: its numbers are words of 64 bits
abbrev pub OfWords : Form → List ℕ → List ℕ → Type 0
OfWords f y0 a = Below (2 ^ 64) (words_in f y0 a)
