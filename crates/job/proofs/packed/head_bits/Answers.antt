-- `packed::head_bits` meets its contract: the five bytes are the last five of a word. Assumes nothing.
use Rattle.std.proofs.Common.{arith, ◌∙◌}
use Rattle.loops.specs.Loop.{turns, loop}
use Rattle.job.specs.Packed.{head_bits}
use Rattle.job.proofs.packed.head_bits.Goals as goal

pub returns : goal.returns
unfolding head_bits loop turns
returns c = c.from_be_bytes.ensures ∙ omega arith
