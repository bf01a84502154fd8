-- `writer::write` meets its contract: a form that is judged to be a job is packed where the slice has room, and otherwise nothing is
-- written. Assumes nothing.
use mathlib.Core.Path.{◌≡◌, sym, ap, ◌∙◌}
use mathlib.Core.List.{List, ◌++◌}
use Prim.Native.Nat.{ℕ, ◌≤◌, ◌<◌}
use lib.ListN.{length, drop}
use borrow.Author.Tests.{lt-ltb, le-ltb}
use Rattle.std.specs.Prelude.{Result, Ok, Err}
use Rattle.std.proofs.lemmas.Result.{err_from_is_err_and}
use Rattle.loops.specs.Refusal.{gives, refuses}
use Rattle.loops.specs.laws.ChoiceLaws.{when_true, when_false}
use Rattle.job.specs.declared.form.Form.{Form}
use Rattle.job.specs.declared.writer.WriteError.{WriteError}
use Rattle.job.specs.Packed.{length_for}
use Rattle.job.specs.Writing.{packed_of, judged_of, writing_of, WriteOutcome, written_over, write_of}
use Rattle.job.specs.laws.JudgedLaws.{Accepted, judged_accepts}
use Rattle.job.proofs.writer.write.Goals as goal

module _ (f : Form) (y0 a : List ℕ) {r : Result ℕ WriteError} (is : writing_of r ≡ judged_of f (length y0) (length a)) where
  -- by what the judgement said
  said : (out : List ℕ) {w : Result ℕ WriteError} → r ≡ w → written_over (packed_of f y0 a) (writing_of w) out ≡ write_of f y0 a out
  unfolding write_of
  said out e = ap (λ o. written_over (packed_of f y0 a) o out) (sym (ap writing_of e) ∙ is)

  refused : (why : WriteError) (out : List ℕ) {w : Result ℕ WriteError} → r ≡ Err why → w ≡ Err why → ◌≡◌ {A = WriteOutcome} (writing_of w, out) (write_of f y0 a out)
  refused why out e f = rw f (said out e)

  module _ (long : ℕ) (e : r ≡ Ok long) where
    accepted : Accepted f (length y0) (length a) × (long ≡ length_for f.n)
    accepted = judged_accepts f (length y0) (length a) long (sym is ∙ ap writing_of e)

    short : (out : List ℕ) → length out < long → ◌≡◌ {A = WriteOutcome} (refuses 25, out) (write_of f y0 a out)
    short out h = sym (when_true _ _ (lt-ltb _ _ h)) ∙ said out e

    written :
        (out : List ℕ) {after : List ℕ} → long ≤ length out → after ≡ packed_of f y0 a ++ drop (length_for f.n) out →
        ◌≡◌ {A = WriteOutcome} (gives long, after) (write_of f y0 a out)
    written out room p = rw (p, ← accepted.1) (sym (when_false _ _ (le-ltb _ _ room)) ∙ said out e)

pub returns-in_err-long : goal.returns-in_err-long
returns-in_err-long c =
    let h = err_from_is_err_and c.from_residual.result c.from_residual.ensures.1 in
    refused _ _ _ c.judged.ensures _ _ c.in_err-long.was (h.1 ∙ ap Err h.2)

pub returns-then-out-long : goal.returns-then-out-long
returns-then-out-long c = short _ _ _ c.judged.ensures _ c.in_ok-long.was _ c.if-out-long.true

pub pack-requires : goal.pack-requires
pack-requires c =
    let h = accepted _ c.args.y0.now c.args.a.now c.judged.ensures _ c.in_ok-long.was in
    (h.0.few, (h.0.fits, rw (← h.1) c.if-out-long.false))

pub returns : goal.returns
returns c = written _ _ _ c.judged.ensures _ c.in_ok-long.was _ c.if-out-long.false c.pack.ensures
