-- `writer::put_words` meets its contract: a word a turn. Assumes nothing.
use Rattle.std.proofs.Common.{refl, ◌∙◌, arith}
use Rattle.job.specs.laws.LaidLaws.{none_put, word_put}
use Rattle.job.proofs.writer.put_words.Goals as goal

pub loop-w-init : goal.loop-w-init
loop-w-init c = record { put = none_put _ _ c.requires; same = refl }

pub loop-w-preserved : goal.loop-w-preserved
loop-w-preserved c =
    record {
      put = word_put _ _ _ c.requires (omega arith) c.loop-w.invariant.put c.put_word.ensures.put;
      same = c.put_word.ensures.same ∙ c.loop-w.invariant.same;
    }
