-- `fields::ended` meets its contract: the status by its number, then h.
use Rattle.lines.specs.Fields.{puts_fields}
use Rattle.lines.proofs.fields.ended.Goals as goal

pub returns-clause-put : goal.returns-clause-put
unfolding puts_fields
returns-clause-put c = rw (← c.status.ensures, ← c.field.ensures.put) c.field-2.ensures.put
