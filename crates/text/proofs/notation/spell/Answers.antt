-- `spell` meets its contract: each turn writes the digit that is written first of those left.
use Rattle.std.proofs.Common.{sym, ◌∙◌}
use Rattle.text.proofs.Spelling.{written_into_more, none_left, row_is_whole}
use Rattle.text.proofs.notation.spell.Goals as goal

pub loop-i-preserved : goal.loop-i-preserved
loop-i-preserved g c =
    rw (c.code.ensures, c.BASE.ensures, c.BASE-rest.ensures) (sym (written_into_more _ _ _ _ _ c.loop-i-test.true) ∙ c.loop-i.invariant)

pub returns : goal.returns
returns g c = none_left _ _ _ _ _ c.loop-i-test.false c.loop-i.invariant ∙ row_is_whole _ _ _ g.met.N.Notation.laws _ _
