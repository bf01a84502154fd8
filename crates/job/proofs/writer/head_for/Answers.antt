-- `writer::head_for` meets its contract: the fields are narrow, so nothing wraps. Assumes nothing.
use native.Mathlib.Omega.{arith}
use Rattle.job.specs.laws.HeadLaws.{bit_small}
use Rattle.job.proofs.writer.head_for.Goals as goal

pub overflow_add-result : goal.overflow_add-result
overflow_add-result c = omega (arith, bit_small c.args.f.automatic)

pub overflow_mul-result-2 : goal.overflow_mul-result-2
overflow_mul-result-2 c = omega (arith, bit_small c.args.f.automatic)
