-- `job::writer::put_words`: the invariant of its loop.
use Rattle.std.specs.Prelude.{◌≡◌, take}
use Rattle.text.specs.Page.{SamePage, puts, seen}
use Rattle.job.specs.Writing.{joined}
use Rattle.job.proofs.writer.put_words.Given as goal

-- the words passed were put, on the same page
abbrev pub invariant-loop-w : goal.invariant-loop-w
invariant-loop-w l = record { put : seen l.page ≡ puts (joined (take l.w-index l.ws)) (seen l.initial.page); same : SamePage l.initial.page l.page }
