-- `reader::job_of` meets its contract, field by field. Assumes nothing.
use Rattle.job.specs.Reading.{job_of}
use Rattle.job.proofs.reader.job_of.Goals as goal

pub returns : goal.returns
unfolding job_of
returns c = rw (c.double.ensures, c.double-2.ensures, c.double-3.ensures, c.double-4.ensures, c.first_step.ensures)
