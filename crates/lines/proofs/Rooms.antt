-- Room on a page: with room a line that is put field by field is the line put at once; without, it is not begun.
use Rattle.std.proofs.Common.{◌≡◌, sym, ◌∙◌, Bool, true, false, List, ℕ, length, Option, None}
use Rattle.text.specs.Page.{Sheet, puts, room_for}
use Rattle.lines.specs.Lines.{line}
use Rattle.lines.specs.Fields.{puts_line}
use Rattle.lines.specs.laws.FieldLaws.{line_with_room, line_without_room}

pub whole : (letter : ℕ) (fs : List (List ℕ)) (place : Option ℕ) (out : List ℕ) (k : ℕ) {b : Bool} {p : Sheet} → length (line letter fs) ≡ k
    → b ≡ room_for k place (length out) → b ≡ true → p ≡ puts_line letter fs (place, out) → p ≡ puts (line letter fs) (place, out)
whole letter fs place out k l e t f = f ∙ line_with_room letter fs place out k l (sym e ∙ t)

pub not_begun : (t : List ℕ) (place : Option ℕ) (out : List ℕ) (k : ℕ) {b : Bool} {p : Sheet} → length t ≡ k → b ≡ room_for k place (length out) → b ≡ false
    → p ≡ (None, out) → p ≡ puts t (place, out)
not_begun t place out k l e f p = p ∙ line_without_room t place out k l (sym e ∙ f)
