-- A line put piece by piece: fields after fields are the fields of both, and letter, fields and end are the line.
use mathlib.Core.Path.{◌≡◌, ap, ◌∙◌}
use mathlib.Core.List.{List, [], ◌∷◌, ◌++◌}
use Prim.Native.Nat.{ℕ}
use Rattle.text.specs.Page.{Sheet, puts}
use Rattle.lines.specs.Fields.{puts_fields, puts_line}

pub both : (fs gs : List (List ℕ)) (p : Sheet) {q r : Sheet} → q ≡ puts_fields fs p → r ≡ puts_fields gs q → r ≡ puts_fields (fs ++ gs) p
unfolding puts_fields
both [] gs p e₁ e₂ = e₂ ∙ ap (puts_fields gs) e₁
both (f ∷ fs) gs p e₁ e₂ = both fs gs _ e₁ e₂

pub whole_line : (letter : ℕ) (fs : List (List ℕ)) (p : Sheet) {q r s : Sheet}
    → q ≡ puts (letter ∷ []) p → r ≡ puts_fields fs q → s ≡ puts (10 ∷ []) r → s ≡ puts_line letter fs p
unfolding puts_line
whole_line letter fs p e₁ e₂ e₃ = e₃ ∙ ap (puts (10 ∷ [])) (e₂ ∙ ap (puts_fields fs) e₁)
