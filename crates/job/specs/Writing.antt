-- What a writer accepts as a job, and the bytes that it then writes (02 §7). It refuses in the request's order: 1, 17, for n above 0
-- the beginning's own 5 to 8, and 25 where the slice is short.
use Rattle.std.specs.Prelude.{Bool, true, false, ◌&&◌, ◌||◌, not, List, [], ◌∷◌, ◌++◌, ℕ, ◌+◌, ◌*◌, ◌^◌, ltb, eqb, length, drop, Result, Ok, Err, ⊤}
use Rattle.loops.specs.Arithmetic.{◌⊖◌}
use Rattle.loops.specs.Choice.{when◌then◌else◌}
use Rattle.loops.specs.Refusal.{Outcome, gives, refuses}
use Rattle.number.specs.Helpers.{signum_of}
use Rattle.text.specs.Words.{bytes_of}
use Rattle.rules.specs.declared.types.Refusal.{Refusal}
use Rattle.rules.specs.Refusals.{number_of}
use Rattle.rules.specs.Checks.{tolerances_checked}
use Rattle.job.specs.declared.form.Form.{Form}
use Rattle.job.specs.declared.reader.Job.{Job}
use Rattle.job.specs.declared.writer.WriteError.{WriteError}
use Rattle.job.specs.declared.writer.WriteError.TheVariants.{TooManyComponents, NoJob, NegativeTolerance, NoSteps, LimitTooLarge, ZeroFirstStep, SliceShort}
use Rattle.job.specs.Types.{Scalar, max_n}
use Rattle.job.specs.Packed.{head_length, length_for}
use Rattle.job.specs.Reading.{job_of, settings_of}

-- ---- the bytes of a form with y0 and A

abbrev pub bit : Bool → ℕ
bit true = 1
bit false = 0

-- the head's 6 + 20 + 7 + 1 + 6 bits: each field behind those before it, then six zeros
abbrev pub head_for : Form → ℕ
head_for f = (((f.n * 2 ^ 20 + f.max_steps) * 2 ^ 7 + f.newton_maxiter) * 2 ^ 1 + bit f.automatic) * 2 ^ 6

-- the words behind it
abbrev pub words_in : Form → List ℕ → List ℕ → List ℕ
words_in f y0 a = f.x0 ∷ f.xend ∷ f.first_step ∷ f.rtol ∷ f.atol ∷ (y0 ++ a)

-- words one after another, eight bytes each
unfoldable pub joined : List ℕ → List ℕ
joined [] = []
joined (w ∷ ws) = bytes_of 8 w ++ joined ws

unfoldable pub packed_of : Form → List ℕ → List ℕ → List ℕ
packed_of f y0 a = bytes_of head_length (head_for f) ++ joined (words_in f y0 a)

-- ---- what is accepted

-- 17 unless y0 of `places` words and A of `cells` have their lengths, each limit fits its field, and a first_step that is not used has
-- only zero bits
unfoldable pub fits_of : Form → ℕ → ℕ → Bool
fits_of f places cells =
    eqb places f.n && (eqb cells (f.n * f.n) && (ltb f.max_steps (2 ^ 20) && (ltb f.newton_maxiter (2 ^ 7) && (not f.automatic || eqb f.first_step 0))))

-- 5 to 8: the beginning's own checks of a job's numbers. (4 is among them, and cannot be: each tolerance is one number.) With no
-- component a beginning ends at once
unfoldable pub begins_of : Job → Result ⊤ Refusal
begins_of job =
    when eqb job.n 0 then Ok tt
    else tolerances_checked (settings_of job) job.n (signum_of (job.xend ⊖ job.x0)) (Scalar job.rtol) [] (Scalar job.atol) []

-- what a check comes to: the length, or the number of the refusal
abbrev pub begun_of : ℕ → Result ⊤ Refusal → Outcome ℕ
begun_of long (Ok tt) = gives long
begun_of long (Err why) = refuses (number_of why)

-- how many bytes the job has, or why it is none
unfoldable pub judged_of : Form → ℕ → ℕ → Outcome ℕ
judged_of f places cells =
    when ltb max_n f.n then refuses 1
    else when fits_of f places cells then begun_of (length_for f.n) (begins_of (job_of f))
    else refuses 17

-- ---- the whole

-- the number of each refusal
abbrev pub write_number : WriteError → ℕ
write_number TooManyComponents = 1
write_number NoJob = 17
write_number NegativeTolerance = 5
write_number NoSteps = 6
write_number LimitTooLarge = 7
write_number ZeroFirstStep = 8
write_number SliceShort = 25

-- what each answer says: how many bytes were written, or the number of the refusal
abbrev pub writing_of : Result ℕ WriteError → Outcome ℕ
writing_of (Ok count) = gives count
writing_of (Err why) = refuses (write_number why)

-- what a call comes to: its answer, then what the slice holds
abbrev pub WriteOutcome : Type 0
WriteOutcome = Outcome ℕ × List ℕ

-- the job goes to the first bytes, and what lies after it stays; a refusal writes nothing
abbrev pub written_over : List ℕ → Outcome ℕ → List ℕ → WriteOutcome
written_over job (gives long) out = when ltb (length out) long then (refuses 25, out) else (gives long, job ++ drop long out)
written_over job (refuses number) out = (refuses number, out)

unfoldable pub write_of : Form → List ℕ → List ℕ → List ℕ → WriteOutcome
write_of f y0 a out = written_over (packed_of f y0 a) (judged_of f (length y0) (length a)) out
