-- The reader of doubles is the reader of bits, followed by from_bits: for every file, and whatever the arrays hold. So a file that it reads,
-- and that the solver does not refuse to begin with, is a job: the form, y0 and A of its bits.
use Rattle.std.specs.Prelude.{◌≡◌, List, ◌++◌, map, ℕ, ◌+◌, ◌*◌, Float}
use Rattle.std.proofs.Math.Path.{refl, ap}
use Rattle.std.proofs.Common.{sym}
use Rattle.std.proofs.Math.ListN.{take, drop}
use Rattle.std.proofs.Math.Seq.{take_at}
use Rattle.loops.specs.Refusal.{Outcome, gives, refuses}
use Rattle.text.specs.Words.{Below}
use Rattle.job.specs.declared.form.Form.{Form}
use Rattle.job.specs.declared.reader.Job.{Job}
use Rattle.job.specs.JobFile.{Begins, JobFile}
use Rattle.job.specs.Packed.{words_of, value_of, doubles_of}
use Rattle.job.specs.Reading.{FormOutcome, form_read, form_placed, read_form_of, ReadOutcome, job_of, placed, read_of}
use Rattle.job.specs.laws.ReadingLaws.{refuses_nothing, words_long, doubles_long}

-- what was read by its bits, each number by its value: y0 and A go to the first places of their arrays
abbrev pub valued : FormOutcome → List Float → List Float → ReadOutcome
valued (gives f, ys, bs) y0 a =
    let n = f.n in
    (gives (job_of f), map value_of (take n ys) ++ drop n y0, map value_of (take (n * n) bs) ++ drop (n * n) a)
valued (refuses number, ys, bs) y0 a = (refuses number, y0, a)

module _ (s : List ℕ) (y0 a : List Float) (ys bs : List ℕ) where
  placed_valued : (o : Outcome Form) → placed s o y0 a ≡ valued (form_placed s o ys bs) y0 a
  placed_valued (gives f) =
      let n = f.n in
      sym (rw (take_at (words_of s 5 n) (drop n ys) n (words_long s 5 n), take_at (words_of s (5 + n) (n * n)) (drop (n * n) bs) (n * n) (words_long s (5 + n) (n * n))))
  placed_valued (refuses number) = refl

  pub read_is_valued : read_of s y0 a ≡ valued (read_form_of s ys bs) y0 a
  unfolding read_of read_form_of
  read_is_valued = placed_valued (form_read s)

-- ---- what is read by values, and begins, is a job

-- a form with y0 and A of which the bytes are the file
abbrev pub IsJob : List ℕ → Type 0
IsJob s = (f : Form) × ((y0 : List ℕ) × ((a : List ℕ) × JobFile s f y0 a))

module _ (s : List ℕ) (bytes : Below 256 s) (y b : List Float) (job : Job) where
  placed_is_job :
      (o : Outcome Form) → form_read s ≡ o → (placed s o y b).0 ≡ gives job → Begins job (take job.n (placed s o y b).1) → IsJob s
  unfolding job_of read_form_of
  placed_is_job (gives f) is e begins =
      let n = f.n in
      let same : job_of f ≡ job = cc in
      let state : take n (doubles_of s 5 n ++ drop n y) ≡ doubles_of s 5 n = take_at (doubles_of s 5 n) (drop n y) n (doubles_long s 5 n) in
      let starts : Begins (job_of f) (take n (doubles_of s 5 n ++ drop n y)) = rw (← same) at begins in (
        f,
        (
          words_of s 5 n,
          (
            words_of s (5 + n) (n * n),
            record { bytes = bytes; reads = λ ys bs. ap (λ (r : Outcome Form). form_placed s r ys bs) is; begins = rw state at starts },
          ),
        ),
      )
  placed_is_job (refuses number) is e begins = refuses_nothing e

  pub read_is_a_job : (read_of s y b).0 ≡ gives job → Begins job (take job.n (read_of s y b).1) → IsJob s
  unfolding read_of
  read_is_a_job e begins = placed_is_job (form_read s) refl e begins
