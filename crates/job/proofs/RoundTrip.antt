-- The writer and the reader, for every input (02 §7): reading what was written returns the same bits, writing what was read returns the same
-- bytes, and the writer accepts exactly the forms whose files are jobs (`JobFile`). A file that is read and that the solver refuses to begin
-- with is none: the writer refuses what was read of it by the same number, 5 to 8.
--
-- It holds since forms that fit and files that are accepted are one to one (`PackedLaws`), and since both go by the beginning's own checks
-- (`BeginningLaws`). Numbers travel as their 64 bits, so no NaN is an exception.
use Rattle.std.specs.Prelude.{◌≡◌, List, [], ◌++◌, map, ℕ, zero, suc, ◌+◌, ◌*◌, ◌≤◌, ◌<◌, ltb, take, drop, replicate, Float}
use Rattle.std.proofs.Math.Path.{refl, ap}
use Rattle.std.proofs.Common.{sym, ◌∙◌, append-nil, arith, length-append, length-drop, take_at, drop_at, lt-ltb, le-ltb, ltb-false}
use Rattle.std.proofs.Math.Option.{none}
use Rattle.std.proofs.Math.ListN.{length, length-replicate}
use Rattle.loops.specs.Arithmetic.{+0}
use Rattle.loops.specs.Refusal.{Outcome, gives, refuses}
use Rattle.loops.specs.laws.ChoiceLaws.{either, when_true, when_false}
use Rattle.text.specs.Words.{Below}
use Rattle.rules.specs.declared.types.Answer.TheVariants.{Refused}
use Rattle.rules.specs.declared.types.Refusal.{Refusal}
use Rattle.rules.specs.Places.{need}
use Rattle.rules.specs.Refusals.{number_of, refusal_of}
use Rattle.rules.specs.Calls.{beginning}
use Rattle.job.specs.declared.form.Form.{Form}
use Rattle.job.specs.declared.reader.Job.{Job}
use Rattle.job.specs.Types.{max_n}
use Rattle.job.specs.Packed.{words_of, value_of, length_for}
use Rattle.job.specs.Reading.{FormOutcome, form_read, form_placed, read_form_of, job_of, configuration_of}
use Rattle.job.specs.Writing.{packed_of, judged_of, WriteOutcome, written_over, write_of}
use Rattle.job.specs.JobFile.{Reads, Begins, JobFile, OfWords}
use Rattle.job.specs.laws.ReadingLaws.{refuses_nothing, words_long, values_long}
use Rattle.job.specs.laws.FitLaws.{Fits, fits_test, test_fits}
use Rattle.job.proofs.PackedLaws.{length_packed, packed_small, read_packed, y0_packed, a_packed, Found, packed_read}
use Rattle.job.specs.laws.BeginningLaws.{passed_begins, begins_passed, refused_begins}
use Rattle.job.specs.laws.JudgedLaws.{Accepted, judged_accepts, accepted_judged}

-- ---- a form that fits is read from its bytes

module _ (f : Form) (y0 a : List ℕ) (few : f.n ≤ max_n) (fits : Fits f (length y0) (length a)) (words : OfWords f y0 a) where
  packed_reads : Reads (packed_of f y0 a) f y0 a
  unfolding read_form_of
  packed_reads y b =
      ap (λ (o : Outcome Form). form_placed (packed_of f y0 a) o y b) (read_packed f y0 a few fits words)
      ∙ rw (y0_packed f y0 a few fits words, a_packed f y0 a few fits words)

-- ---- what a file reads as, by its parts

record Held (s : List ℕ) (f : Form) (y0 a : List ℕ) : Type 0 where
  form : form_read s ≡ gives f
  state : words_of s 5 f.n ≡ y0
  cells : words_of s (5 + f.n) (f.n * f.n) ≡ a

nothing_after : (l : List ℕ) (n : ℕ) → l ++ drop n [] ≡ l
nothing_after l zero = append-nil l
nothing_after l (suc n) = append-nil l

placed_held :
    (s : List ℕ) (f : Form) (y0 a : List ℕ) (o : Outcome Form) → form_read s ≡ o →
    form_placed s o [] [] ≡ (gives f, y0 ++ drop f.n [], a ++ drop (f.n * f.n) []) → Held s f y0 a
placed_held s f y0 a (gives g) is e =
    let said = ap (λ (r : FormOutcome). r.0) e in
    let same : g ≡ f = cc in
    let first = ap (λ (r : FormOutcome). r.1) e in
    let second = ap (λ (r : FormOutcome). r.2) e in
    record {
      form = rw same at is;
      state = sym (nothing_after _ f.n) ∙ (rw same at first) ∙ nothing_after y0 f.n;
      cells = sym (nothing_after _ (f.n * f.n)) ∙ (rw same at second) ∙ nothing_after a (f.n * f.n);
    }
placed_held s f y0 a (refuses number) is e = refuses_nothing (ap (λ (r : FormOutcome). r.0) e)

reads_held : (s : List ℕ) (f : Form) (y0 a : List ℕ) → Reads s f y0 a → Held s f y0 a
unfolding read_form_of
reads_held s f y0 a reads = placed_held s f y0 a (form_read s) refl (reads [] [])

reads_found : (s : List ℕ) (f : Form) (y0 a : List ℕ) → Below 256 s → Reads s f y0 a → Found s f y0 a
reads_found s f y0 a bytes reads =
    let h = reads_held s f y0 a reads in
    let found = packed_read s bytes f h.form in
    rw (h.state, h.cells) at found

-- y0 of a job has as many words as there are components
pub state_long : (s : List ℕ) (f : Form) (y0 a : List ℕ) → JobFile s f y0 a → length y0 ≡ f.n
state_long s f y0 a job = (reads_found s f y0 a job.bytes job.reads).fits.long

-- ---- what one call tells

-- one reading tells of all: whatever arrays were lent, y0 and A stand in their first places
pub read_once :
    (s y b : List ℕ) (f : Form) → (read_form_of s y b).0 ≡ gives f →
    Reads s f (take f.n (read_form_of s y b).1) (take (f.n * f.n) (read_form_of s y b).2)
unfolding read_form_of
read_once s y b f e = placed_once (form_read s) refl e
  where
    placed_once :
        (o : Outcome Form) → form_read s ≡ o → (form_placed s o y b).0 ≡ gives f →
        Reads s f (take f.n (form_placed s o y b).1) (take (f.n * f.n) (form_placed s o y b).2)
    placed_once (gives g) is t =
        let n = f.n in
        let same : g ≡ f = cc in
        let state : take n (words_of s 5 n ++ drop n y) ≡ words_of s 5 n = take_at (words_of s 5 n) (drop n y) n (words_long s 5 n) in
        let cells : take (n * n) (words_of s (5 + n) (n * n) ++ drop (n * n) b) ≡ words_of s (5 + n) (n * n) =
        take_at (words_of s (5 + n) (n * n)) (drop (n * n) b) (n * n) (words_long s (5 + n) (n * n)) in
        rw same (rw (state, cells) (λ ys bs. ap (λ (r : Outcome Form). form_placed s r ys bs) (is ∙ ap gives same)))
    placed_once (refuses number) is t = refuses_nothing t

-- and so does one beginning
pub begun_once :
    (job : Job) (y0 ws q : List Float) → length y0 ≡ job.n → job.n ≤ max_n → need job.n ≤ length ws → 8 * job.n ≤ length q →
    refusal_of (beginning (configuration_of job y0) ws q).is.answer ≡ none → Begins job y0
begun_once job y0 ws q long few works asks e vs p w k = passed_begins job y0 vs p long few w k (begins_passed job y0 ws q long few works asks e)

-- ---- one file for each form

-- two files that read as the same form with the same y0 and A are the same bytes
pub one_file : (s t : List ℕ) (f : Form) (y0 a : List ℕ) → Below 256 s → Below 256 t → Reads s f y0 a → Reads t f y0 a → s ≡ t
one_file s t f y0 a p q d e = sym (reads_found s f y0 a p d).packed ∙ (reads_found t f y0 a q e).packed

-- its bytes are those of the form, also where the solver would refuse it
pub read_is_packed : (s : List ℕ) (f : Form) (y0 a : List ℕ) → Below 256 s → Reads s f y0 a → packed_of f y0 a ≡ s
read_is_packed s f y0 a p d = (reads_found s f y0 a p d).packed

-- ---- what is read is what is accepted

module _ (f : Form) (y0 a : List ℕ) where
  -- enough room for the beginning
  abbrev works : List Float
  works = replicate (need f.n) +0

  abbrev asks : List Float
  asks = replicate (8 * f.n) +0

  file_accepted : (s : List ℕ) → JobFile s f y0 a → Accepted f (length y0) (length a) × (packed_of f y0 a ≡ s)
  unfolding job_of
  file_accepted s h =
      let found = reads_found s f y0 a h.bytes h.reads in
      let long : length (map value_of y0) ≡ f.n = values_long y0 ∙ found.fits.long in
      let enough : need f.n ≤ length works = omega (arith, length-replicate (need f.n) +0) in
      let also : 8 * f.n ≤ length asks = omega (arith, length-replicate (8 * f.n) +0) in (
        record {
          few = found.few;
          fits = fits_test f (length y0) (length a) found.fits;
          begins = begins_passed (job_of f) (map value_of y0) works asks long found.few enough also (h.begins works asks enough also);
        },
        found.packed,
      )

  accepted_file : OfWords f y0 a → Accepted f (length y0) (length a) → JobFile (packed_of f y0 a) f y0 a
  unfolding job_of
  accepted_file words h =
      let fits = test_fits f (length y0) (length a) h.fits in
      record {
        bytes = packed_small f y0 a;
        reads = packed_reads f y0 a h.few fits words;
        begins = λ ws q w k. passed_begins (job_of f) (map value_of y0) ws q (values_long y0 ∙ fits.long) h.few w k h.begins;
      }

  packed_long : Accepted f (length y0) (length a) → length (packed_of f y0 a) ≡ length_for f.n
  packed_long h = length_packed f y0 a (test_fits f (length y0) (length a) h.fits)

-- ---- writing what was read

module _ (s : List ℕ) (f : Form) (y0 a out : List ℕ) (job : JobFile s f y0 a) where
  judged_file : judged_of f (length y0) (length a) ≡ gives (length s)
  judged_file =
      let h = file_accepted f y0 a s job in
      accepted_judged f (length y0) (length a) h.0 ∙ ap gives (sym (packed_long f y0 a h.0) ∙ ap length h.1)

  -- the same bytes, and what lies after them stays
  pub read_is_written : length s ≤ length out → write_of f y0 a out ≡ (gives (length s), s ++ drop (length s) out)
  unfolding write_of
  read_is_written room = rw (judged_file, (file_accepted f y0 a s job).1) (when_false _ _ (le-ltb _ _ room))

  -- nothing, and 25, where the slice is short
  pub read_has_no_room : length out < length s → write_of f y0 a out ≡ (refuses 25, out)
  unfolding write_of
  read_has_no_room short = rw judged_file (when_true _ _ (lt-ltb _ _ short))

-- and what the solver refuses to begin with is not written: it is refused by the same number
pub refused_alike :
    (s : List ℕ) (f : Form) (y0 a out : List ℕ) (ws q : List Float) (why : Refusal) → Below 256 s → Reads s f y0 a → need f.n ≤ length ws →
    8 * f.n ≤ length q → (beginning (configuration_of (job_of f) (map value_of y0)) ws q).is.answer ≡ Refused why →
    write_of f y0 a out ≡ (refuses (number_of why), out)
unfolding write_of judged_of job_of
refused_alike s f y0 a out ws q why bytes reads works asks e =
    let found = reads_found s f y0 a bytes reads in
    let long : length (map value_of y0) ≡ f.n = values_long y0 ∙ found.fits.long in
    let judged : judged_of f (length y0) (length a) ≡ refuses (number_of why) =
    when_false _ _ (le-ltb _ _ found.few)
    ∙ when_true _ _ (fits_test f (length y0) (length a) found.fits)
    ∙ refused_begins (job_of f) (map value_of y0) ws q long found.few works asks why (length_for f.n) e in
    ap (λ (o : Outcome ℕ). written_over (packed_of f y0 a) o out) judged

-- ---- reading what was written

-- an outcome that writes k bytes: they are a job, the form with y0 and A, and what lies after them stays
abbrev pub WritesJob : Form → List ℕ → List ℕ → List ℕ → WriteOutcome → Type 0
WritesJob f y0 a out r =
    (k : ℕ) → r.0 ≡ gives k → JobFile (take k r.1) f y0 a × (drop k r.1 ≡ drop k out) × (length r.1 ≡ length out)

module _ (f : Form) (y0 a out : List ℕ) (words : OfWords f y0 a) where
  refusal_writes : (number : ℕ) → WritesJob f y0 a out (refuses number, out)
  refusal_writes number k e = refuses_nothing e

  over_writes : (o : Outcome ℕ) → judged_of f (length y0) (length a) ≡ o → WritesJob f y0 a out (written_over (packed_of f y0 a) o out)
  over_writes (refuses number) is = refusal_writes number
  over_writes (gives long) is =
      either (WritesJob f y0 a out) (ltb (length out) long) (λ _. refusal_writes 25)
      (λ room k e.
      let accepted = judged_accepts f (length y0) (length a) long is in
      let size : length (packed_of f y0 a) ≡ long = packed_long f y0 a accepted.0 ∙ sym accepted.1 in
      let enough : long ≤ length out = ltb-false _ _ room in
      let all : k ≡ long = cc in
      rw all (
        rw (take_at (packed_of f y0 a) (drop long out) long size) (accepted_file f y0 a words accepted.0),
        drop_at (packed_of f y0 a) (drop long out) long size,
        simp (length-append, length-drop) (omega arith),
      ))

  pub written_is_read : WritesJob f y0 a out (write_of f y0 a out)
  unfolding write_of
  written_is_read = over_writes (judged_of f (length y0) (length a)) refl

-- ---- the writer accepts exactly what the reader accepts as a job

-- in some slice it is written; some file reads as it, and begins
abbrev pub IsWritten : Form → List ℕ → List ℕ → Type 0
IsWritten f y0 a = (out : List ℕ) × ((k : ℕ) × ((write_of f y0 a out).0 ≡ gives k))

abbrev pub IsRead : Form → List ℕ → List ℕ → Type 0
IsRead f y0 a = (s : List ℕ) × JobFile s f y0 a

module _ (f : Form) (y0 a : List ℕ) where
  pub accepts_only_jobs : OfWords f y0 a → IsWritten f y0 a → IsRead f y0 a
  accepts_only_jobs words w = (take w.1.0 (write_of f y0 a w.0).1, (written_is_read f y0 a w.0 words w.1.0 w.1.1).0)

  pub accepts_every_job : IsRead f y0 a → IsWritten f y0 a
  accepts_every_job r = (r.0, (length r.0, ap (λ (o : WriteOutcome). o.0) (read_is_written r.0 f y0 a r.0 r.1 (omega arith))))

-- ---- a refusal writes nothing

pub refusal_writes_nothing : (f : Form) (y0 a out : List ℕ) (number : ℕ) → (write_of f y0 a out).0 ≡ refuses number → (write_of f y0 a out).1 ≡ out
unfolding write_of
refusal_writes_nothing f y0 a out = over_nothing (judged_of f (length y0) (length a))
  where
    Nothing : WriteOutcome → Type 0
    Nothing r = (number : ℕ) → r.0 ≡ refuses number → r.1 ≡ out

    over_nothing : (o : Outcome ℕ) → Nothing (written_over (packed_of f y0 a) o out)
    over_nothing (refuses number) = λ k e. refl
    over_nothing (gives long) =
        either Nothing (ltb (length out) long) (λ _ k e. refl) (λ _ k e. let z : ◌≡◌ {A = ℕ} 0 1 = cc in absurd (omega arith))
