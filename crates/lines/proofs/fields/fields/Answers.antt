-- `fields::fields` meets its contract: a turn puts the first of the fields to come.
use Rattle.std.proofs.Common.{◌≡◌, refl, ◌∙◌, List, [], ◌∷◌, ℕ, ◌+◌, ◌≤◌, ◌<◌, length, get_or, drop, map, drop-cons, add-one}
use lib.ListN.{drop_of_length-le}
use Rattle.text.specs.Page.{Sheet}
use Rattle.lines.specs.Fields.{puts_fields}
use Rattle.lines.proofs.fields.fields.Goals as goal

module _ {X : Type 0} (text : X → List ℕ) (xs : List X) (i : ℕ) (p q : Sheet) where
  one_more :
      {x : X} → x ≡ get_or xs i x → i < length xs → q ≡ puts_fields (text x ∷ []) p →
      puts_fields (map text (drop (i + 1) xs)) q ≡ puts_fields (map text (drop i xs)) p
  unfolding puts_fields
  one_more {x} is h e = rw (e, add-one, drop-cons xs i x h, ← is) refl

  none_left : length xs ≤ i → puts_fields (map text (drop i xs)) p ≡ q → p ≡ q
  unfolding puts_fields
  none_left h e = rw (drop_of_length-le xs h) at e

pub loop-x-preserved : goal.loop-x-preserved
loop-x-preserved g c =
    let inv = c.loop-x.invariant in
    (c.field.ensures.same ∙ inv.0, one_more _ c.args.xs.now _ _ _ c.x-item.is c.loop-x-test.true c.field.ensures.put ∙ inv.1)

pub returns-clause-put : goal.returns-clause-put
returns-clause-put g c = none_left _ c.args.xs.now _ _ _ c.loop-x-test.false c.loop-x.invariant.1
