-- `opening::open` meets its contract: a job that was read has no more components than are served. Assumes nothing.
use mathlib.Core.Path.{◌≡◌, sym, ap, ◌∙◌}
use mathlib.Core.List.{List}
use Prim.Native.Nat.{ℕ, ◌*◌, ◌≤◌}
use lib.ListN.{take, replicate}
use lib.Ieee.{Float, of_bits}
use Rattle.loops.specs.Arithmetic.{+0}
use Rattle.matrix.specs.Size.{max_n}
use Rattle.rules.specs.State.{After, after}
use Rattle.rules.specs.Calls.{beginning}
use Rattle.std.specs.Prelude.{Result, Ok, Err}
use Rattle.job.specs.declared.form.ReadError.{ReadError}
use Rattle.job.specs.Reading.{read_number, ReadOutcome, reading_of, configuration_of}
use Rattle.job.proofs.Serving.{read_serves}
use Rattle.listing.specs.Types.{Job}
use Rattle.listing.specs.Printed.{reading}
use Rattle.listing.specs.Pages.{refused_of, begun_with, opened_from, opened}
use Rattle.listing.specs.declared.opening.Listing.{Listing}
use Rattle.listing.proofs.opening.open.Goals as goal

module _ (s : List ℕ) {r : Result Job ReadError} {y0 b : List Float} (read : ◌≡◌ {A = ReadOutcome} (reading_of r, y0, b) (reading s)) where
  few : (j : Job) → r ≡ Ok j → j.n ≤ max_n
  few j e = read_serves s (replicate max_n +0) (replicate (max_n * max_n) +0) j (sym (ap (λ (o : ReadOutcome). o.0) read) ∙ ap reading_of e)

  -- by what the reader said
  said : (a ws q : List Float) {x : Result Job ReadError} → r ≡ x → opened_from (reading_of x, y0, b) a ws q ≡ opened s a ws q
  unfolding opened
  said a ws q e = ap (λ (o : ReadOutcome). opened_from o a ws q) (ap (λ (x : Result Job ReadError). (reading_of x, y0, b)) (sym e) ∙ read)

  job_opened :
      (a ws q : List Float) {j : Job} {l : After Listing × List Float} → r ≡ Ok j →
      l ≡ begun_with (beginning (configuration_of j (take j.n y0)) ws q) b a → l ≡ opened s a ws q
  job_opened a ws q e f = f ∙ said a ws q e

  refusal_opened :
      (a ws q : List Float) {why : ReadError} {l : Listing} → r ≡ Err why → l ≡ refused_of (read_number why) →
      ◌≡◌ {A = After Listing × List Float} (after l ws q, a) (opened s a ws q)
  refusal_opened a ws q e f = rw f (said a ws q e)

pub begun-requires : goal.begun-requires
unfolding of_bits
begun-requires c = few _ c.read.ensures _ c.in-Ok.is

pub returns-in-Ok : goal.returns-in-Ok
unfolding of_bits
returns-in-Ok c = job_opened _ c.read.ensures _ _ _ c.in-Ok.is c.begun.ensures

pub returns-in-Err : goal.returns-in-Err
unfolding of_bits
returns-in-Err c = refusal_opened _ c.read.ensures _ _ _ c.in-Err.is (c.refused.ensures ∙ ap refused_of c.number.ensures)
