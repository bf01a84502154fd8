-- `lines::end_line` meets its contract: the line is as long as the code says.
use Rattle.std.proofs.Common.{sym, ◌∙◌}
use Rattle.lines.specs.Lines.{end_fields, end_line}
use Rattle.lines.specs.laws.FieldLaws.{length_end}
use Rattle.lines.proofs.Rooms.{whole, not_begun}
use Rattle.lines.proofs.lines.end_line.Goals as goal

pub returns-then-has_room-clause-put : goal.returns-then-has_room-clause-put
returns-then-has_room-clause-put c =
    let given = c.args in
    let size = length_end given.status given.h given.steps given.evals in
    whole 69 (end_fields given.status given.h given.steps given.evals) given.page.now.place given.page.now.bytes.now _ (size ∙ sym c.end_length.ensures)
    c.has_room.ensures.room c.if-has_room.true c.end.ensures.put

pub returns-else-has_room-clause-put : goal.returns-else-has_room-clause-put
returns-else-has_room-clause-put c =
    let given = c.args in
    let size = length_end given.status given.h given.steps given.evals in
    not_begun (end_line given.status given.h given.steps given.evals) given.page.now.place given.page.now.bytes.now _ (size ∙ sym c.end_length.ensures)
    c.has_room.ensures.room c.if-has_room.false c.close.ensures.close
