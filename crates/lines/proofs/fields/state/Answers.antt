-- `fields::state` meets its contract: the letter, x, each y, the line's end.
use Rattle.std.proofs.Common.{◌≡◌, refl, ap, List, [], ◌∷◌, Float, map}
use Rattle.text.specs.Digits.{hexadecimal}
use Rattle.lines.specs.Lines.{hexes}
use Rattle.lines.proofs.Pieces.{both, whole_line}
use Rattle.lines.proofs.fields.state.Goals as goal

mapped : (xs : List Float) → map hexadecimal xs ≡ hexes xs
unfolding hexes
mapped [] = refl
mapped (x ∷ xs) = ap (λ l. hexadecimal x ∷ l) (mapped xs)

pub returns-clause-put : goal.returns-clause-put
unfolding hexes
returns-clause-put c =
    whole_line _ _ _ c.put_byte.ensures.put (both _ _ _ c.field.ensures.put (rw (← mapped c.args.y.now) c.fields.ensures.put)) c.put_byte-2.ensures.put
