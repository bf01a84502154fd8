-- `fields::refusal` meets its contract: the letter, the number, the line's end.
use Rattle.lines.proofs.Pieces.{whole_line}
use Rattle.lines.proofs.fields.refusal.Goals as goal

pub returns-clause-put : goal.returns-clause-put
returns-clause-put c = whole_line _ _ _ c.put_byte.ensures.put c.field.ensures.put c.put_byte-2.ensures.put
