-- `job::packed::load`: the invariant of its loop.
use Rattle.std.specs.Prelude.{map}
use Rattle.job.specs.Packed.{words_of}
use Rattle.job.proofs.Loading.{Loaded}
use Rattle.job.proofs.packed.load.Given as goal

abbrev pub invariant-loop-k : goal.invariant-loop-k
invariant-loop-k g l = Loaded (λ k. map g.T.OfWord.of_word (words_of l.s l.i k)) l.k l.to
