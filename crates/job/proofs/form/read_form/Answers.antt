-- `form::read_form` meets its contract: a word is read as itself. Assumes nothing.
use Rattle.std.specs.Prelude.{◌≡◌, List, ℕ, ◌+◌, ◌*◌}
use Rattle.std.proofs.Common.{refl, ◌∙◌, map-id}
use Rattle.loops.specs.Refusal.{Outcome, gives, refuses}
use Rattle.job.specs.declared.form.Form.{Form}
use Rattle.job.specs.Packed.{words_of}
use Rattle.job.specs.Reading.{form_read, form_placed, placed_as, read_form_of}
use Rattle.job.proofs.form.read_form.Goals as goal

as_words : (s : List ℕ) (o : Outcome Form) (y0 a : List ℕ) → placed_as (λ w. w) s o y0 a ≡ form_placed s o y0 a
as_words s (gives f) y0 a = rw (map-id (words_of s 5 f.n), map-id (words_of s (5 + f.n) (f.n * f.n))) refl
as_words s (refuses number) y0 a = refl

pub returns : goal.returns
unfolding read_form_of
returns c = c.placed.ensures ∙ as_words _ (form_read c.args.s.now) _ _
