-- The contracts of this crate leave no choice: two outcomes that meet one of them, from the same call, are the same answer and the
-- same numbers left in every lent slice. Each `Meets..` is the equation that the code's contract states.
use Rattle.std.specs.Prelude.{◌≡◌, refl, eqb, List, ℕ, Float, Result, Ok, Err}
use Rattle.std.proofs.Common.{sym, ap, ◌∙◌}
use Rattle.loops.specs.Choice.{when◌then◌else◌}
use Rattle.loops.specs.Refusal.{Outcome, gives, refuses}
use Rattle.job.specs.declared.form.Form.{Form}
use Rattle.job.specs.declared.form.ReadError.{ReadError}
use Rattle.job.specs.declared.reader.Job.{Job}
use Rattle.job.specs.declared.right.WrongLength.{WrongLength}
use Rattle.job.specs.declared.writer.WriteError.{WriteError}
use Rattle.job.specs.declared.writer.WriteError.TheVariants as write
use Rattle.job.specs.Types.{BDF}
use Rattle.job.specs.Reading.{read_number, read_refusal, FormOutcome, form_reading_of, read_form_of, ReadOutcome, reading_of, read_of, settings_of}
use Rattle.job.specs.Right.{right_side_of}
use Rattle.job.specs.laws.ReadingLaws.{read_refused}
use Rattle.job.specs.Writing.{write_number, WriteOutcome, writing_of, write_of}

-- ---- read

abbrev pub MeetsRead : List ℕ → List Float → List Float → Result Job ReadError → List Float → List Float → Type 0
MeetsRead s y0 a r y b = ◌≡◌ {A = ReadOutcome} (reading_of r, y, b) (read_of s y0 a)

-- the answer that an outcome tells, read back
abbrev reading_told : Outcome Job → Result Job ReadError
reading_told (gives job) = Ok job
reading_told (refuses number) = Err (read_refusal number)

reading_read : (r : Result Job ReadError) → reading_told (reading_of r) ≡ r
reading_read (Ok job) = refl
reading_read (Err e) = ap Err (read_refused e)

pub read_unique :
    (s : List ℕ) (y0 a : List Float) {r t : Result Job ReadError} {y z b c : List Float} →
    MeetsRead s y0 a r y b → MeetsRead s y0 a t z c → (r ≡ t) × (y ≡ z) × (b ≡ c)
read_unique s y0 a {r} {t} m o =
    let same = m ∙ sym o in
    (sym (reading_read r) ∙ ap (λ (x : ReadOutcome). reading_told x.0) same ∙ reading_read t, ap (λ (x : ReadOutcome). x.1) same, ap (λ (x : ReadOutcome). x.2) same)

-- ---- read_form

abbrev pub MeetsReadForm : List ℕ → List ℕ → List ℕ → Result Form ReadError → List ℕ → List ℕ → Type 0
MeetsReadForm s y0 a r y b = ◌≡◌ {A = FormOutcome} (form_reading_of r, y, b) (read_form_of s y0 a)

abbrev form_told : Outcome Form → Result Form ReadError
form_told (gives f) = Ok f
form_told (refuses number) = Err (read_refusal number)

form_read_lem : (r : Result Form ReadError) → form_told (form_reading_of r) ≡ r
form_read_lem (Ok f) = refl
form_read_lem (Err e) = ap Err (read_refused e)

pub read_form_unique :
    (s y0 a : List ℕ) {r t : Result Form ReadError} {y z b c : List ℕ} →
    MeetsReadForm s y0 a r y b → MeetsReadForm s y0 a t z c → (r ≡ t) × (y ≡ z) × (b ≡ c)
read_form_unique s y0 a {r} {t} m o =
    let same = m ∙ sym o in
    (sym (form_read_lem r) ∙ ap (λ (x : FormOutcome). form_told x.0) same ∙ form_read_lem t, ap (λ (x : FormOutcome). x.1) same, ap (λ (x : FormOutcome). x.2) same)

-- ---- the numbers of refusals

abbrev pub MeetsReadNumber : ReadError → ℕ → Type 0
MeetsReadNumber why r = r ≡ read_number why

pub read_number_unique : (why : ReadError) {r s : ℕ} → MeetsReadNumber why r → MeetsReadNumber why s → r ≡ s
read_number_unique why m o = m ∙ sym o

abbrev pub MeetsWriteNumber : WriteError → ℕ → Type 0
MeetsWriteNumber why r = r ≡ write_number why

pub write_number_unique : (why : WriteError) {r s : ℕ} → MeetsWriteNumber why r → MeetsWriteNumber why s → r ≡ s
write_number_unique why m o = m ∙ sym o

-- ---- write

-- the refusal that a number tells
write_refusal : ℕ → WriteError
write_refusal number =
    when eqb number 1 then write.TooManyComponents
    else when eqb number 17 then write.NoJob
    else when eqb number 5 then write.NegativeTolerance
    else when eqb number 6 then write.NoSteps
    else when eqb number 7 then write.LimitTooLarge
    else when eqb number 8 then write.ZeroFirstStep
    else write.SliceShort

write_refused : (e : WriteError) → write_refusal (write_number e) ≡ e
unfolding write_refusal when◌then◌else◌
write_refused write.TooManyComponents = refl
write_refused write.NoJob = refl
write_refused write.NegativeTolerance = refl
write_refused write.NoSteps = refl
write_refused write.LimitTooLarge = refl
write_refused write.ZeroFirstStep = refl
write_refused write.SliceShort = refl

abbrev pub MeetsWrite : Form → List ℕ → List ℕ → List ℕ → Result ℕ WriteError → List ℕ → Type 0
MeetsWrite f y0 a out₀ r out = ◌≡◌ {A = WriteOutcome} (writing_of r, out) (write_of f y0 a out₀)

abbrev writing_told : Outcome ℕ → Result ℕ WriteError
writing_told (gives count) = Ok count
writing_told (refuses number) = Err (write_refusal number)

writing_read : (r : Result ℕ WriteError) → writing_told (writing_of r) ≡ r
writing_read (Ok count) = refl
writing_read (Err e) = ap Err (write_refused e)

pub write_unique :
    (f : Form) (y0 a out₀ : List ℕ) {r s : Result ℕ WriteError} {out other : List ℕ} →
    MeetsWrite f y0 a out₀ r out → MeetsWrite f y0 a out₀ s other → (r ≡ s) × (out ≡ other)
write_unique f y0 a out₀ {r} {s} m o =
    let same = m ∙ sym o in
    (sym (writing_read r) ∙ ap (λ (x : WriteOutcome). writing_told x.0) same ∙ writing_read s, ap (λ (x : WriteOutcome). x.1) same)

-- ---- right_side

abbrev pub MeetsRight : List Float → List Float → List Float → Result Unit WrongLength → List Float → Type 0
MeetsRight a y dy₀ r dy = ◌≡◌ {A = Result Unit WrongLength × List Float} (r, dy) (right_side_of a y dy₀)

pub right_side_unique :
    (a y dy₀ : List Float) {r s : Result Unit WrongLength} {dy other : List Float} → MeetsRight a y dy₀ r dy → MeetsRight a y dy₀ s other → (r ≡ s) × (dy ≡ other)
right_side_unique a y dy₀ m o =
    let same = m ∙ sym o in (ap (λ (x : Result Unit WrongLength × List Float). x.0) same, ap (λ (x : Result Unit WrongLength × List Float). x.1) same)

-- ---- settings

abbrev pub MeetsSettings : Job → BDF → Type 0
MeetsSettings job r = r ≡ settings_of job

pub settings_unique : (job : Job) {r s : BDF} → MeetsSettings job r → MeetsSettings job s → r ≡ s
settings_unique job m o = m ∙ sym o
