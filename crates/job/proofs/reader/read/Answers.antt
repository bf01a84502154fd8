-- `reader::read` meets its contract: what was read is the form that the file says, by its values. Assumes nothing.
use Rattle.std.specs.Prelude.{◌≡◌, List, ℕ, Float, Result, Ok, Err}
use Rattle.std.proofs.Common.{refl, ap, subst, ◌∙◌}
use Rattle.std.proofs.lemmas.Result.{err_from_is_err_and}
use Rattle.loops.specs.Refusal.{Outcome, gives, refuses}
use Rattle.job.specs.declared.form.Form.{Form}
use Rattle.job.specs.declared.form.ReadError.{ReadError}
use Rattle.job.specs.declared.reader.Job.{Job}
use Rattle.job.specs.Packed.{value_of}
use Rattle.job.specs.Reading.{read_number, form_read, form_reading_of, reading_of, job_of, placed_as, ReadOutcome, placed, read_of}
use Rattle.job.proofs.reader.read.Goals as goal

meant : Outcome Form → Outcome Job
meant (gives f) = gives (job_of f)
meant (refuses number) = refuses number

-- what was read of a file's values
abbrev Values : Type 0
Values = Outcome Form × List Float × List Float

by_values : (s : List ℕ) (o : Outcome Form) (y0 a : List Float) {p : Values} → p ≡ placed_as value_of s o y0 a → ◌≡◌ {A = ReadOutcome} (meant p.0, p.1, p.2) (placed s o y0 a)
unfolding meant
by_values s (gives f) y0 a e = rw e refl
by_values s (refuses number) y0 a e = rw e refl

module _ (s : List ℕ) (y0 a : List Float) {r : Result Form ReadError} {y b : List Float} (is : ◌≡◌ {A = Values} (form_reading_of r, y, b) (placed_as value_of s (form_read s) y0 a)) where
  a_job : {f : Form} {j : Job} → r ≡ Ok f → j ≡ job_of f → ◌≡◌ {A = ReadOutcome} (gives j, y, b) (read_of s y0 a)
  unfolding read_of meant
  a_job e g = rw g (subst (λ (x : Result Form ReadError). ◌≡◌ {A = ReadOutcome} (meant (form_reading_of x), y, b) (placed s (form_read s) y0 a)) e (by_values s (form_read s) y0 a is))

  a_refusal : {why : ReadError} {t : Result Job ReadError} → r ≡ Err why → t ≡ Err why → ◌≡◌ {A = ReadOutcome} (reading_of t, y, b) (read_of s y0 a)
  unfolding read_of meant
  a_refusal e g = rw g (subst (λ (x : Result Form ReadError). ◌≡◌ {A = ReadOutcome} (meant (form_reading_of x), y, b) (placed s (form_read s) y0 a)) e (by_values s (form_read s) y0 a is))

pub returns-in_err-placed : goal.returns-in_err-placed
returns-in_err-placed c =
    let h = err_from_is_err_and c.from_residual.result c.from_residual.ensures.1 in
    a_refusal _ _ _ c.placed.ensures c.in_err-placed.was (h.1 ∙ ap Err h.2)

pub returns : goal.returns
returns c = a_job _ _ _ c.placed.ensures c.in_ok-placed.was c.job_of.ensures
