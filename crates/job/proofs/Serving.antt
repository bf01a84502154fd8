-- What holds of a form or a job that was read: it has at most as many components as are served, so that the arrays have room for them, and its
-- file is as long as they make it. An edit of `head_read` is to be refused for what it says, so this stands here and not in specs/.
use Rattle.std.specs.Prelude.{◌≡◌, refl, List, ℕ, ◌*◌, ◌≤◌, ltb, length, Float, Result, Ok}
use Rattle.std.proofs.Common.{sym, ap, ◌∙◌, ltb-false}
use Rattle.std.proofs.Math.Nat.{mul-le-mul}
use Rattle.loops.specs.laws.ChoiceLaws.{either}
use Rattle.loops.specs.Refusal.{Outcome, gives, refuses}
use Rattle.job.specs.declared.packed.Head.{Head}
use Rattle.job.specs.declared.form.Form.{Form}
use Rattle.job.specs.declared.form.ReadError.{ReadError}
use Rattle.job.specs.declared.form.ReadError.TheVariants.{TooManyComponents, NoJob}
use Rattle.job.specs.declared.reader.Job.{Job}
use Rattle.job.specs.Types.{max_n}
use Rattle.job.specs.Packed.{head_length, head_bits, head_of, length_for}
use Rattle.job.specs.Reading.{read_number, read_refusal, accepted_of, form_of, head_read, form_read, form_reading_of, job_of, placed, read_of}
use Rattle.job.specs.laws.ReadingLaws.{refuses_nothing, read_refused, accepted_length}

-- ---- a form that was read

-- a form of at most max_n components, in a file as long as they make it
pub record Served (s : List ℕ) (f : Form) : Type 0 where
  pub few : f.n ≤ max_n
  pub long : length s ≡ length_for f.n

abbrev AllServed : List ℕ → Outcome Form → Type 0
AllServed s r = (f : Form) → r ≡ gives f → Served s f

refusal_serves : (s : List ℕ) (number : ℕ) → AllServed s (refuses number)
refusal_serves s number f e = refuses_nothing e

head_serves : (s : List ℕ) (h : Head) → AllServed s (head_read s h)
unfolding head_read form_of
head_serves s h =
    either (AllServed s) (ltb max_n h.n) (λ _. refusal_serves s 1)
    (λ few. either (AllServed s) (accepted_of s h)
    (λ accepts f e. let same : form_of s h ≡ f = cc in rw (← same) record { few = ltb-false max_n h.n few; long = accepted_length s h accepts })
    (λ _. refusal_serves s 17))

pub form_serves : (s : List ℕ) → AllServed s (form_read s)
unfolding form_read
form_serves s = either (AllServed s) (ltb (length s) head_length) (λ _. refusal_serves s 17) (λ _. head_serves s (head_of (head_bits s)))

-- ---- a job that was read

placed_serves : (s : List ℕ) (r : Outcome Form) (y0 a : List Float) → AllServed s r → (j : Job) → (placed s r y0 a).0 ≡ gives j → j.n ≤ max_n
unfolding job_of
placed_serves s (gives f) y0 a serves j e = let same : job_of f ≡ j = cc in rw (← same) (serves f refl).few
placed_serves s (refuses number) y0 a serves j e = refuses_nothing e

pub read_serves : (s : List ℕ) (y0 a : List Float) → (j : Job) → (read_of s y0 a).0 ≡ gives j → j.n ≤ max_n
unfolding read_of
read_serves s y0 a = placed_serves s (form_read s) y0 a (form_serves s)

-- ---- a file that was refused

-- by the number of one of the two refusals
abbrev KnownRefusal : Outcome Form → Type 0
KnownRefusal r = (number : ℕ) → r ≡ refuses number → read_number (read_refusal number) ≡ number

form_not_refused : (f : Form) → KnownRefusal (gives f)
form_not_refused f number e = refuses_nothing (sym e)

refusal_known : (why : ReadError) → KnownRefusal (refuses (read_number why))
refusal_known why number e = let same : read_number why ≡ number = cc in rw (← same, read_refused why)

head_refuses : (s : List ℕ) (h : Head) → KnownRefusal (head_read s h)
unfolding head_read
head_refuses s h =
    either KnownRefusal (ltb max_n h.n) (λ _. refusal_known TooManyComponents)
    (λ _. either KnownRefusal (accepted_of s h) (λ _. form_not_refused (form_of s h)) (λ _. refusal_known NoJob))

form_refuses : (s : List ℕ) → KnownRefusal (form_read s)
unfolding form_read
form_refuses s = either KnownRefusal (ltb (length s) head_length) (λ _. refusal_known NoJob) (λ _. head_refuses s (head_of (head_bits s)))

placed_refuses : (s : List ℕ) (r : Outcome Form) (y0 a : List Float) → KnownRefusal r → (number : ℕ) → (placed s r y0 a).0 ≡ refuses number → read_number (read_refusal number) ≡ number
placed_refuses s (gives f) y0 a known number e = refuses_nothing (sym e)
placed_refuses s (refuses k) y0 a known number e = let same : k ≡ number = cc in rw (← same) (known k refl)

pub read_refuses : (s : List ℕ) (y0 a : List Float) → (number : ℕ) → (read_of s y0 a).0 ≡ refuses number → read_number (read_refusal number) ≡ number
unfolding read_of
read_refuses s y0 a = placed_refuses s (form_read s) y0 a (form_refuses s)

-- ---- what a reader knows

module _ (s : List ℕ) {r : Result Form ReadError} (is : form_reading_of r ≡ form_read s) where
  pub served : (f : Form) → r ≡ Ok f → Served s f
  served f e = form_serves s f (sym is ∙ ap form_reading_of e)

  pub square : (f : Form) → r ≡ Ok f → f.n * f.n ≤ max_n * max_n
  square f e = mul-le-mul (served f e).few (served f e).few
