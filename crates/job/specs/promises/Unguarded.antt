-- A job file has no word for the guard (02 §8): the run of every job is unguarded, as the Rust's are.
use Rattle.std.specs.Prelude.{◌≡◌, refl, false}
use Rattle.job.specs.declared.reader.Job.{Job}
use Rattle.job.specs.Reading.{settings_of}

pub jobs_are_unguarded : (job : Job) → (settings_of job).guarded ≡ false
jobs_are_unguarded job = refl
