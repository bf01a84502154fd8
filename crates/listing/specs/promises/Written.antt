-- What the writer writes, the job program runs (02 §7): for a file that is a job its output is never a refusal, but the lines of a run that
-- ends. `written_is_read` (`job`) says that what the writer wrote is such a file. And a file that the job program reads, and whose run the
-- solver does not refuse to begin, is a job: `read_is_written` says that the writer writes it.
--
-- It holds since the job program reads the file's numbers as the values of their bits (`read_is_valued`), and the solver does not refuse to
-- begin with them.
use Rattle.std.specs.Prelude.{◌≡◌, List, [], ◌++◌, map, ℕ, ◌*◌, ◌≤◌, take, drop, replicate}
use Rattle.std.proofs.Common.{sym, ap, ◌∙◌, arith, take_at}
use Rattle.std.proofs.Math.Option.{none, some, some-ne-none}
use Rattle.std.proofs.Math.ListN.{length, length-replicate}
use Rattle.loops.specs.Arithmetic.{+0}
use Rattle.loops.specs.Refusal.{gives}
use Rattle.text.specs.Words.{Below}
use Rattle.text.specs.laws.Fronts.{squared}
use Rattle.matrix.specs.Size.{max_n}
use Rattle.rules.specs.Places.{need}
use Rattle.rules.specs.Refusals.{told, refusal_of}
use Rattle.job.specs.declared.form.Form.{Form}
use Rattle.job.specs.Packed.{value_of}
use Rattle.job.specs.Reading.{FormOutcome, ReadOutcome, job_of}
use Rattle.job.specs.JobFile.{JobFile}
use Rattle.job.specs.laws.ReadingLaws.{refuses_nothing, values_long}
use Rattle.job.proofs.Serving.{read_serves}
use Rattle.job.proofs.RoundTrip.{begun_once, state_long}
use Rattle.job.specs.promises.Values.{valued, read_is_valued, IsJob, read_is_a_job}
use Rattle.listing.specs.Types.{Job}
use Rattle.listing.specs.Printed.{blank_work, blank_question, reading, printed}
use Rattle.listing.specs.Telling.{Ran}
use Rattle.listing.specs.promises.Whole.{Whole, no_job, not_begun, ran, configured, beginning_of, printed_is_whole, with_components}

module _ (s : List ℕ) (f : Form) (y0 a : List ℕ) (job : JobFile s f y0 a) where
  -- what is read of the file
  read_back : reading s ≡ valued (gives f, y0 ++ drop f.n [], a ++ drop (f.n * f.n) []) (replicate max_n +0) (replicate (max_n * max_n) +0)
  read_back = read_is_valued s _ _ [] [] ∙ ap (λ (r : FormOutcome). valued r (replicate max_n +0) (replicate (max_n * max_n) +0)) (job.reads [] [])

  job_read : (reading s).0 ≡ gives (job_of f)
  job_read = ap (λ (r : ReadOutcome). r.0) read_back

  state_read : take f.n (reading s).1 ≡ map value_of y0
  state_read =
      let n = f.n in
      let long : length y0 ≡ n = state_long s f y0 a job in
      let first : take n (y0 ++ drop n []) ≡ y0 = take_at y0 (drop n []) n long in
      let held : (reading s).1 ≡ map value_of y0 ++ drop n (replicate max_n +0) = rw first at (ap (λ (r : ReadOutcome). r.1) read_back) in
      ap (take n) held ∙ take_at (map value_of y0) (drop n (replicate max_n +0)) n (values_long y0 ∙ long)

  few : f.n ≤ max_n
  unfolding job_of
  few = read_serves s _ _ (job_of f) job_read

  not_refused : refusal_of (beginning_of (reading s) (job_of f)).is.answer ≡ none
  unfolding job_of
  not_refused =
      let n = f.n in
      let works : need n ≤ length blank_work = omega (arith, length-replicate (need max_n) +0, squared n max_n few, few) in
      let asks : 8 * n ≤ length blank_question = omega (arith, length-replicate (8 * max_n) +0, few) in
      rw (← state_read) at (job.begins blank_work blank_question works asks)

  pub written_runs : Ran (configured (reading s) (job_of f)) (reading s).2 (beginning_of (reading s) (job_of f)) [] (printed s)
  written_runs = by_whole (printed_is_whole s)
    where
      by_whole : Whole (reading s) (printed s) → Ran (configured (reading s) (job_of f)) (reading s).2 (beginning_of (reading s) (job_of f)) [] (printed s)
      by_whole (no_job number e l) =
          refuses_nothing (sym e ∙ job_read)
      by_whole (not_begun j why e says l) =
          let both : gives j ≡ gives (job_of f) = sym e ∙ job_read in
          let same : j ≡ job_of f = cc in
          let told_of : refusal_of (beginning_of (reading s) (job_of f)).is.answer ≡ some (told why) = ap refusal_of (rw same at says) in
          absurd (some-ne-none (told why) (sym told_of ∙ not_refused))
      by_whole (ran j e r) =
          let both : gives j ≡ gives (job_of f) = sym e ∙ job_read in
          let same : j ≡ job_of f = cc in
          rw same at r

-- ---- and back

pub runs_are_jobs :
    (s : List ℕ) → Below 256 s → (j : Job) → (reading s).0 ≡ gives j → refusal_of (beginning_of (reading s) j).is.answer ≡ none → IsJob s
runs_are_jobs s bytes j e free =
    let n = j.n in
    let few : n ≤ max_n = read_serves s _ _ j e in
    let works : need n ≤ length blank_work = omega (arith, length-replicate (need max_n) +0, squared n max_n few, few) in
    let asks : 8 * n ≤ length blank_question = omega (arith, length-replicate (8 * max_n) +0, few) in
    read_is_a_job s bytes _ _ j e (begun_once j (take n (reading s).1) blank_work blank_question (with_components s j e) few works asks free)
