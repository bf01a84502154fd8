-- `lines::state_line` meets its contract: the line is as long as the code says, and no page has room for the greatest number.
use Rattle.std.proofs.Common.{◌≡◌, ◌∙◌, Bool, ℕ, ◌+◌, ◌-◌, ◌^◌, ◌≤◌, ◌<◌, leb, min, true, false, Option, None, Some, refl, arith, leb-true, le-leb}
use Rattle.std.proofs.lemmas.Bool.{lt-leb, leb-false}
use Rattle.text.specs.Page.{room_for}
use Rattle.lines.specs.laws.FieldLaws.{length_state}
use Rattle.lines.proofs.Rooms.{whole, not_begun}
use Rattle.lines.proofs.lines.state_line.Goals as goal

same_test : (k at len : ℕ) → len < 2 ^ 63 → (b : Bool) → leb (at + k) len ≡ b → leb (at + min k (2 ^ 64 - 1)) len ≡ b
same_test k at len h true t =
    let fits : at + k ≤ len = leb-true (at + k) len t in
    le-leb (at + min k (2 ^ 64 - 1)) len (omega arith)
same_test k at len h false t =
    let past : len < at + k = leb-false (at + k) len t in
    lt-leb (at + min k (2 ^ 64 - 1)) len (omega arith)

room : (k : ℕ) (place : Option ℕ) (len : ℕ) → len < 2 ^ 63 → room_for (min k (2 ^ 64 - 1)) place len ≡ room_for k place len
room k (Some at) len h = same_test k at len h (leb (at + k) len) refl
room k None len h = refl

pub returns-then-has_room-clause-put : goal.returns-then-has_room-clause-put
returns-then-has_room-clause-put c =
    let given = c.args in
    whole _ _ _ _ _ (length_state given.letter given.x given.y.now) (c.has_room.ensures.room ∙ rw c.state_length.ensures (room _ _ _ c.has_room.ensures.short)) c.if-has_room.true c.state.ensures.put

pub returns-else-has_room-clause-put : goal.returns-else-has_room-clause-put
returns-else-has_room-clause-put c =
    let given = c.args in
    not_begun _ _ _ _ (length_state given.letter given.x given.y.now) (c.has_room.ensures.room ∙ rw c.state_length.ensures (room _ _ _ c.has_room.ensures.short)) c.if-has_room.false c.close.ensures.close
