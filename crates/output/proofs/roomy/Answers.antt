-- `output::roomy` meets its contract: its test is the definition's.
use Rattle.std.proofs.Common.{sym, ◌∙◌}
use Rattle.output.proofs.Flushing.{flushed_for_room, has_room_already}
use Rattle.output.proofs.roomy.Goals as goal

pub returns-then-not-has_room-clause-place : goal.returns-then-not-has_room-clause-place
returns-then-not-has_room-clause-place g c =
    flushed_for_room _ _ _ (sym c.has_room.ensures.room ∙ c.if-not-has_room.true) c.flush.ensures.place

pub returns-else-not-has_room-clause-place : goal.returns-else-not-has_room-clause-place
returns-else-not-has_room-clause-place g c = has_room_already _ _ _ (sym c.has_room.ensures.room ∙ c.if-not-has_room.false)
