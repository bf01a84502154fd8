-- `write_job::rewritten` is safe: a form that was read has no more components than the arrays hold.
use Rattle.std.specs.Prelude.{◌≡◌, List, ℕ, Result}
use Rattle.std.proofs.Common.{refl, ap, ◌∙◌, arith}
use Rattle.loops.specs.Refusal.{Outcome, gives, refuses}
use Rattle.text.specs.laws.Fronts.{front}
use Rattle.job.specs.declared.form.Form.{Form}
use Rattle.job.specs.declared.form.ReadError.{ReadError}
use Rattle.job.specs.Reading.{FormOutcome, form_read, form_reading_of, form_placed, read_form_of}
use Rattle.job.proofs.Serving.{served, square}
use Rattle.write_job.proofs.rewritten.Goals as goal

placed_told : (s : List ℕ) (o : Outcome Form) (y0 a : List ℕ) → (form_placed s o y0 a).0 ≡ o
placed_told s (gives f) y0 a = refl
placed_told s (refuses number) y0 a = refl

read_is : (s y0 a : List ℕ) (r : Result Form ReadError) {y b : List ℕ} → ◌≡◌ {A = FormOutcome} (form_reading_of r, y, b) (read_form_of s y0 a) → form_reading_of r ≡ form_read s
unfolding read_form_of
read_is s y0 a r is = ap (λ (o : FormOutcome). o.0) is ∙ placed_told s (form_read s) y0 a

pub slice_bounds-y0-end : goal.slice_bounds-y0-end
slice_bounds-y0-end c = omega (arith, c.read_form.array_long, (served c.args.s.now (read_is _ _ _ c.read_form.result c.read_form.ensures) _ c.in_ok-f.was).few)

pub slice_bounds-written-end : goal.slice_bounds-written-end
slice_bounds-written-end c =
    front _ _ (omega (arith, c.read_form.array_long, (served c.args.s.now (read_is _ _ _ c.read_form.result c.read_form.ensures) _ c.in_ok-f.was).few))

pub overflow_mul-a : goal.overflow_mul-a
overflow_mul-a c = omega (arith, square c.args.s.now (read_is _ _ _ c.read_form.result c.read_form.ensures) _ c.in_ok-f.was)

pub slice_bounds-a-end : goal.slice_bounds-a-end
slice_bounds-a-end c = omega (arith, c.read_form.array_long2, square c.args.s.now (read_is _ _ _ c.read_form.result c.read_form.ensures) _ c.in_ok-f.was)

pub slice_bounds-written-end-2 : goal.slice_bounds-written-end-2
slice_bounds-written-end-2 c =
    front _ _ (omega (arith, c.read_form.array_long2, square c.args.s.now (read_is _ _ _ c.read_form.result c.read_form.ensures) _ c.in_ok-f.was))
