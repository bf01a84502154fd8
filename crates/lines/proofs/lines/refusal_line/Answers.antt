-- `lines::refusal_line` meets its contract: the line is as long as the code says.
use Rattle.lines.specs.laws.FieldLaws.{length_refusal}
use Rattle.lines.proofs.Rooms.{whole, not_begun}
use Rattle.lines.proofs.lines.refusal_line.Goals as goal

pub returns-then-has_room-clause-put : goal.returns-then-has_room-clause-put
returns-then-has_room-clause-put c =
    whole _ _ _ _ _ (rw c.places.ensures.0 (length_refusal _)) c.has_room.ensures.room c.if-has_room.true c.refusal.ensures.put

pub returns-else-has_room-clause-put : goal.returns-else-has_room-clause-put
returns-else-has_room-clause-put c =
    not_begun _ _ _ _ (rw c.places.ensures.0 (length_refusal _)) c.has_room.ensures.room c.if-has_room.false c.close.ensures.close
