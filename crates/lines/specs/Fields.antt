-- A line as the code puts it: its letter, then each field after a space, then its end. Where the page has room for the
-- line, that is the line put at once (FieldLaws).
use Rattle.std.specs.Prelude.{List, [], ◌∷◌, ℕ}
use Rattle.text.specs.Page.{Sheet, puts}

unfoldable pub puts_fields : List (List ℕ) → Sheet → Sheet
puts_fields [] p = p
puts_fields (f ∷ fs) p = puts_fields fs (puts f (puts (32 ∷ []) p))

unfoldable pub puts_line : ℕ → List (List ℕ) → Sheet → Sheet
puts_line letter fs p = puts (10 ∷ []) (puts_fields fs (puts (letter ∷ []) p))
