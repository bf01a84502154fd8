-- `form::form_of` meets its contract, field by field. Assumes nothing.
use Rattle.job.specs.Reading.{form_of}
use Rattle.job.proofs.form.form_of.Goals as goal

pub returns : goal.returns
unfolding form_of
returns c = rw (c.word.ensures, c.word-2.ensures, c.word-3.ensures, c.word-4.ensures, c.word-5.ensures)
