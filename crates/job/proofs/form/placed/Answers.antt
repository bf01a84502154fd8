-- `form::placed` meets its contract: a form that was read has at most as many components as the arrays hold, and its file is long enough
-- for y0 and A (`served`). Assumes nothing.
use Rattle.std.specs.Prelude.{◌≡◌, List, ◌++◌, map, ℕ, ◌+◌, ◌*◌, length, take, drop}
use Rattle.std.proofs.Common.{ap, arith}
use Rattle.loops.specs.Refusal.{Outcome, gives}
use Rattle.text.specs.laws.Fronts.{front}
use Rattle.job.specs.declared.form.Form.{Form}
use Rattle.job.specs.Packed.{words_of}
use Rattle.job.specs.Reading.{form_read, placed_as}
use Rattle.job.proofs.Serving.{served, square}
use Rattle.job.proofs.form.placed.Goals as goal

module _ {A : Type 0} (of_word : ℕ → A) (s : List ℕ) (y0 a : List A) where
  a_form :
      (f : Form) {y b : List A} → gives f ≡ form_read s → f.n ≡ length (take f.n y0) → f.n * f.n ≡ length (take (f.n * f.n) a) →
      y ≡ map of_word (words_of s 5 (length (take f.n y0))) → b ≡ map of_word (words_of s (5 + f.n) (length (take (f.n * f.n) a))) →
      ◌≡◌ {A = Outcome Form × List A × List A} (gives f, y ++ drop f.n y0, b ++ drop (f.n * f.n) a) (placed_as of_word s (form_read s) y0 a)
  a_form f is p q e g = rw (e, g, ← p, ← q) (ap (λ (o : Outcome Form). placed_as of_word s o y0 a) is)

pub slice_bounds-load-end : goal.slice_bounds-load-end
slice_bounds-load-end g c = omega (arith, c.requires, (served _ c.form_read.ensures _ c.in_ok-f.was).few)

pub slice_bounds-load-end-2 : goal.slice_bounds-load-end-2
slice_bounds-load-end-2 g c = front _ _ (omega (arith, c.requires, (served _ c.form_read.ensures _ c.in_ok-f.was).few))

pub load-requires : goal.load-requires
load-requires g c =
    let h = served _ c.form_read.ensures _ c.in_ok-f.was in
    omega (arith, h.long, front c.in_ok-f.f.n c.args.y0.now (omega (arith, c.requires, h.few)))

pub overflow_add-n : goal.overflow_add-n
overflow_add-n g c = omega (arith, (served _ c.form_read.ensures _ c.in_ok-f.was).few)

pub overflow_mul-n : goal.overflow_mul-n
overflow_mul-n g c = omega (arith, square _ c.form_read.ensures _ c.in_ok-f.was)

pub slice_bounds-load-end-3 : goal.slice_bounds-load-end-3
slice_bounds-load-end-3 g c = omega (arith, c.requires, square _ c.form_read.ensures _ c.in_ok-f.was)

pub slice_bounds-load-end-4 : goal.slice_bounds-load-end-4
slice_bounds-load-end-4 g c = front _ _ (omega (arith, c.requires, square _ c.form_read.ensures _ c.in_ok-f.was))

pub load-requires-2 : goal.load-requires-2
load-requires-2 g c =
    let h = served _ c.form_read.ensures _ c.in_ok-f.was in
    omega (arith, h.long, front (c.in_ok-f.f.n * c.in_ok-f.f.n) c.args.a.now (omega (arith, c.requires, square _ c.form_read.ensures _ c.in_ok-f.was)))

pub returns : goal.returns
returns g c =
    let few = (served _ c.form_read.ensures _ c.in_ok-f.was).few in
    let cells = square _ c.form_read.ensures _ c.in_ok-f.was in
    a_form _ _ _ _ _ c.in_ok-f.ensures (front _ _ (omega (arith, c.requires, few))) (front _ _ (omega (arith, c.requires, cells))) c.load.ensures c.load-2.ensures
