-- `fields::end` meets its contract: the letter, the fields in their order, the line's end.
use Rattle.lines.proofs.Pieces.{both, whole_line}
use Rattle.lines.proofs.fields.end.Goals as goal

pub returns-clause-put : goal.returns-clause-put
returns-clause-put c =
    whole_line _ _ _ c.put_byte.ensures.put (both _ _ _ c.ended.ensures.put (both _ _ _ c.fields.ensures.put c.fields-2.ensures.put)) c.put_byte-2.ensures.put
