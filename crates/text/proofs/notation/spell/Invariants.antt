-- What is left to write, on the bytes as they are, comes to what was to be written at the start.
use Rattle.std.proofs.Common.{◌≡◌, length}
use Rattle.text.proofs.Spelling.{written_into}
use Rattle.text.proofs.notation.spell.Given as goal

abbrev pub invariant-loop-i : goal.invariant-loop-i
invariant-loop-i g l =
    written_into g.N.Notation.code g.N.Notation.BASE l.i l.rest l.room ≡ written_into g.N.Notation.code g.N.Notation.BASE (length l.initial.room) l.n l.initial.room
