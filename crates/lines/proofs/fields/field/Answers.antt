-- `fields::field` meets its contract: a space, then the field.
use Rattle.lines.specs.Fields.{puts_fields}
use Rattle.lines.proofs.fields.field.Goals as goal

pub returns-clause-put : goal.returns-clause-put
unfolding puts_fields
returns-clause-put g c = rw (← c.put_byte.ensures.put) c.put.ensures.put
